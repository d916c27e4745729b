-- The lemmas of trap_c, lowest first.
mod Above
mod Parts
mod Sizes
mod CornerSteps
mod Rows
mod PageLemmas
mod Runs
mod MovedJobs
mod CoreCounts
mod WorkLemmas
mod SheetLemmas
mod AnswerLemmas
mod OpenLemmas
