pub mod WrittenPlates
pub mod Steps
pub mod Reported
mod Worked
pub mod AssemblyLemmas
pub mod JobLemmas
pub mod LookLemmas
pub mod PlaneLemmas
pub mod PlateLemmas
pub mod GatherLemmas
pub mod VerdictLemmas
pub mod SomeLemmas
pub mod LocalityLemmas
