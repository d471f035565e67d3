-- The lemmas that more than one proof of this crate cites.
pub mod Texts
