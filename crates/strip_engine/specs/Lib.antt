pub mod StripBuffers
pub mod Workspaces
pub mod Rows
pub mod Taken
pub mod Whole
