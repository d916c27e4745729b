pub mod StatementSpans
pub mod PageText
pub mod Runs
