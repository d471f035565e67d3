mod Steps
pub mod Comparison
pub mod Means
