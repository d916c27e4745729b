pub mod Words
pub mod Text
pub mod Answers
pub mod Reading
pub mod Endings
pub mod Cases
pub mod Clauses
