-- The definitions of trap_c, lowest first.
pub mod Names
pub mod Requests
pub mod Errors
pub mod ErrorRecords
pub mod Planes
pub mod Sources
pub mod Fit
pub mod Copies
pub mod Pages
pub mod Places
pub mod Infos
pub mod Windows
pub mod Cores
pub mod ReportRecords
pub mod Calls
pub mod WindowCalls
pub mod Opened
