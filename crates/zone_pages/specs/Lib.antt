pub mod Books
pub mod Comparison
pub mod Objections
