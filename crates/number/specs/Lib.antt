pub mod Limits
pub mod Zeros
pub mod Sizes
pub mod Laws
