pub mod Growth
pub mod Workspaces
pub mod Strips
pub mod Whole
pub mod Works
