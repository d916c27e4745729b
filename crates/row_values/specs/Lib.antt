pub mod Arms
pub mod Nearest
pub mod Rows
pub mod Workspace
pub mod Quiet
