pub mod KeepLemmas
pub mod LevelLemmas
pub mod MarkLemmas
pub mod RowLemmas
pub mod WorkedKeepaway
