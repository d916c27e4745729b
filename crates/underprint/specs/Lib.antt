pub mod Underprint
pub mod Laws
pub mod Lists
pub mod Workspaces
