pub mod Ascending
pub mod FieldLemmas
pub mod AscendingDetails
pub mod Reaching
pub mod Drawings
