pub mod Shrinks
pub mod Finite
pub mod Axes
pub mod Reached
