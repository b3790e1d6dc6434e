pub mod Bits
pub mod Numbers
pub mod Questions
pub mod Faults
pub mod Meaning
pub mod Storing
