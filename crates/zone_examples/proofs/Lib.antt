pub mod Computed
pub mod Squares
pub mod Starts
pub mod Zones
pub mod OneToken
pub mod Records
pub mod Numbers
pub mod Examples
