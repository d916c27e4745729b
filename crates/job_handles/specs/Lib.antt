pub mod Reads
pub mod Handles
pub mod Opened
