pub mod PageLemmas
pub mod PlaneLemmas
