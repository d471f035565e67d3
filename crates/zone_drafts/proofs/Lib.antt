mod Backwards
pub mod Steps
