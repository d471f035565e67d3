pub mod TakenAsks
pub mod TakenCalls
pub mod TakenAll
pub mod OneRun
pub mod OneAsked
pub mod One
pub mod Truths
