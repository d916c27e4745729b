pub mod Strides
pub mod Places
pub mod Checks
pub mod Samples
pub mod Runs
pub mod Reads
pub mod Writes
pub mod Rows
