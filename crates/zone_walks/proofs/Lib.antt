pub mod Closed
pub mod Lessers
pub mod Sums
pub mod Shortened
pub mod NormalForms
pub mod Rounds
pub mod Again
