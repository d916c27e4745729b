pub mod CoreLemmas
pub mod HaloLemmas
pub mod RowLemmas
pub mod RuleLemmas
pub mod WorkspaceLemmas
