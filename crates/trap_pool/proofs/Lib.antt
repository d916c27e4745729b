pub mod Keeps
pub mod Pushes
pub mod Workspaces
pub mod Turns
pub mod Settling
pub mod Numbers
pub mod Pages
