pub mod Lines
pub mod Readings
pub mod Loops
pub mod FaultTexts
pub mod VerdictTexts
