pub mod Fields
pub mod Rows
pub mod Tables
pub mod Walks
pub mod Clean
pub mod Numbers
pub mod Stores
pub mod Bounded
