mod WorkedSets
pub mod RunLemmas
pub mod SetLemmas
pub mod HoldingLemmas
pub mod TextLemmas
pub mod NumberLemmas
pub mod LineLemmas
pub mod SkipLemmas
pub mod EndLemmas
pub mod SetLines
pub mod PlaneLemmas
pub mod NextLemmas
pub mod LineReading
pub mod StandLemmas
