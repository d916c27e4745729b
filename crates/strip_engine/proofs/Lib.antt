pub mod WholeLemmas
pub mod ZoneRows
pub mod WorkspaceLemmas
