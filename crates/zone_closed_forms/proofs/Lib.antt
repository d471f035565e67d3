pub mod Shorter
pub mod Greatest
pub mod Laid
pub mod Narrowing
pub mod Narrowed
pub mod Delayed
pub mod Fired
pub mod Alike
pub mod Kept
mod ClockRows
mod FormLaws
