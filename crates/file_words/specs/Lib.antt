-- How the docket part of a file is written for people, part by part and whole.
pub mod Asked
pub mod Heads
pub mod Items
pub mod Lines
pub mod Tables
pub mod Told
pub mod Zones
