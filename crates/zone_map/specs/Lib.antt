pub mod Workspace
pub mod PagePoints
pub mod Subpaths
pub mod Tallies
pub mod Extents
