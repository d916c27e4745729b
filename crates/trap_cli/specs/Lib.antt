pub mod Options
pub mod PageApp
pub mod Plates
pub mod Words
pub mod Stored
pub mod Commands
pub mod Endings
pub mod Clauses
