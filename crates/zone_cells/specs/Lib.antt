pub mod Sizes
pub mod Cells
pub mod Settling
pub mod Sifted
pub mod Drafts
pub mod Loading
