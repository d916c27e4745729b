pub mod EachLemmas
pub mod JudgeLemmas
pub mod ReadLemmas
pub mod ErrorLemmas
pub mod WriteLemmas
pub mod JudgedLemmas
mod ShareLemmas
