pub mod Records
pub mod Tables
pub mod Recorded
pub mod FirstCounts
