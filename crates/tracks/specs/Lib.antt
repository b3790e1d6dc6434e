pub mod Distribution
pub mod Tracks
pub mod Aligned
pub mod Laws
