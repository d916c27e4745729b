pub mod Words
pub mod Stored
pub mod Text
pub mod Endings
pub mod Clauses
