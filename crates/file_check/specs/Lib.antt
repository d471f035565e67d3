pub mod Files
pub mod Lists
pub mod Walks
