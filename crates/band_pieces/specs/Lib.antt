pub mod Fills
pub mod Finished
pub mod Left
pub mod Workspace
pub mod Spans
pub mod Undone
