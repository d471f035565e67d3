pub mod Windows
pub mod Said
pub mod Sizes
pub mod Clean
