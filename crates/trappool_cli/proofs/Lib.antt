pub mod Steps
pub mod Writing
pub mod Prefixes
pub mod TellingLemmas
pub mod Outs
pub mod Clauses
pub mod Cases
pub mod Judging
