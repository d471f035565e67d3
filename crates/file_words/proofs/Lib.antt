-- The lemmas that more than one proof of this crate cites.
pub mod Due
pub mod Ended
pub mod Texts
pub mod Wholes
