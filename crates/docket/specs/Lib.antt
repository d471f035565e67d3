pub mod Dockets
pub mod Gathered
pub mod Discharging
