pub mod Cuts
pub mod Going
pub mod Steps
pub mod Readings
