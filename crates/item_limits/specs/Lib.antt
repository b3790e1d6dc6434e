pub mod Limits
pub mod LimitLaws
pub mod RatioBoxes
pub mod SelfAlignment
pub mod SizingKeywords
pub mod ItemAxes
pub mod ItemAxisLaws
pub mod Worked
