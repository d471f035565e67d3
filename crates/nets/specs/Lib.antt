pub mod Nets
pub mod Markings
pub mod Runs
