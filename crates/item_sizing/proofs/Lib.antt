pub mod Raises
pub mod UsedLaws
pub mod Finals
