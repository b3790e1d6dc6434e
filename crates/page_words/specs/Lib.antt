pub mod Decimals
pub mod WrittenSizes
pub mod Keywords
