pub mod Zones
pub mod Predecessors
pub mod Digits
pub mod Vouching
pub mod Safety
