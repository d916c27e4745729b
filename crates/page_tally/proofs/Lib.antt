pub mod AddedRows
pub mod CountLemmas
pub mod EdgeCount
pub mod OutcomeLemmas
pub mod StandingLemmas
