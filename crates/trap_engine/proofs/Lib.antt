pub mod PartLemmas
pub mod WorkspaceLemmas
pub mod TableRows
pub mod TakeLemmas
