pub mod Edges
pub mod Offsets
pub mod Blocks
pub mod Margins
pub mod Places
pub mod Laws
pub mod Worked
