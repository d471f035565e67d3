pub mod Walks
pub mod NormalForms
