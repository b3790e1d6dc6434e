pub mod Alignment
pub mod FirstFailing
pub mod Lengths
pub mod Modes
pub mod Ranges
