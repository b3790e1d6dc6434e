pub mod Added
pub mod Nodes
