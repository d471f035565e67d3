pub mod Parts
pub mod Records
pub mod Rows
pub mod Gathered
mod Named
mod Judged
mod Weighed
mod Moved
