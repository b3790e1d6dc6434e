pub mod Meant
mod Stored
