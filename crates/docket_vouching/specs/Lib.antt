pub mod Rows
pub mod Own
pub mod Asked
pub mod Means
pub mod Fits
