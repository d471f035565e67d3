pub mod ClosedForms
pub mod Laws
pub mod ClockRows
