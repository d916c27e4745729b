pub mod Keepaway
pub mod Laws
pub mod Rows
pub mod Workspaces
