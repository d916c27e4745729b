pub mod Limits
pub mod Risk
pub mod Sides
pub mod Sweep
