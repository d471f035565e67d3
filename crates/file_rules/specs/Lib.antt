pub mod FileRefusals
pub mod LineTexts
pub mod Numbers
pub mod Asks
pub mod Reports
pub mod Telling
pub mod Truth
