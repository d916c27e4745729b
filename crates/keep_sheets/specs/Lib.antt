pub mod KeepSheets
pub mod KeepSums
pub mod KeepRule
pub mod KeepWorkspaces
