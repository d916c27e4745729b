pub mod Words
pub mod Stored
pub mod Commands
pub mod ErrorCases
pub mod Verdicts
pub mod Endings
pub mod Putting
pub mod Clauses
