pub mod Words
pub mod Stored
pub mod Files
pub mod Text
pub mod Strips
pub mod Endings
pub mod Planned
pub mod Clauses
