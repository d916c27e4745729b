pub mod RunLemmas
pub mod UnderLemmas
pub mod WorkedUnderprint
