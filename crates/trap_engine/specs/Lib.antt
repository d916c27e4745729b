pub mod Memory
pub mod Receipts
pub mod Parts
pub mod Workspace
pub mod Taking
