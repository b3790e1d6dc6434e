pub mod Held
pub mod RatioBoxes
pub mod SelfAlignment
pub mod ItemAxes
