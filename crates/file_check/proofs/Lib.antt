pub mod Alike
pub mod Calling
pub mod Files
pub mod Tokens
pub mod Walking
