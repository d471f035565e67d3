pub mod Initial
pub mod Pairings
