pub mod Bags
pub mod RunLaws
pub mod Ranges
