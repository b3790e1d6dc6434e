pub mod Counts
pub mod Walks
pub mod Chains
pub mod Shares
pub mod Finite
pub mod Laws
