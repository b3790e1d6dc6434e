pub mod Shapes
pub mod Holds
