pub mod PlainWords
pub mod MarkedWords
