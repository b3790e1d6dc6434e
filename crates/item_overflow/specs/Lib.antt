pub mod ScrollableOverflow
pub mod Baselines
pub mod Laws
pub mod Worked
