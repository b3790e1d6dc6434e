pub mod Found
pub mod UsedSizes
pub mod LaidOut
pub mod SizingLaws
