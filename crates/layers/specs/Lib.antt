pub mod Remembering
pub mod Layers
