pub mod Worlds
pub mod Tables
pub mod Calls
pub mod Logs
pub mod Promise
pub mod Reached
