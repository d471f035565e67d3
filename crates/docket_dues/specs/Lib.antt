pub mod Dues
pub mod Answered
pub mod DueLaws
