-- How a net is written for people, part by part and whole.
pub mod Ages
pub mod Arcs
pub mod Explained
pub mod Summaries
