pub mod Sizes
pub mod Rows
pub mod Bits
pub mod Slots
pub mod Refusals
pub mod Parts
pub mod NetRecords
pub mod NetBytes
