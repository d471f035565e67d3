pub mod Grid
pub mod Fills
pub mod Operations
pub mod Settling
pub mod Sifted
pub mod Steps
pub mod Composed
pub mod Loading
