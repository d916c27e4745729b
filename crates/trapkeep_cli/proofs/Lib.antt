pub mod CarryLemmas
pub mod ClauseLemmas
pub mod OneVerdict
pub mod PutLemmas
pub mod UseLemmas
