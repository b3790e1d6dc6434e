pub mod Faults
pub mod Asking
