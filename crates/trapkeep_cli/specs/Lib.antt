pub mod ErrorCases
pub mod Clauses
pub mod Commands
pub mod Endings
pub mod Putting
pub mod Verdicts
