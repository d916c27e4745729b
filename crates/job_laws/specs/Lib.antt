pub mod Faults
pub mod Jobs
pub mod Paths
pub mod Zones
