pub mod Next
pub mod Made
