pub mod Later
pub mod Loaded
