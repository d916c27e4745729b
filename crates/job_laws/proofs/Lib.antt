pub mod Cuts
pub mod Ends
pub mod Faulting
pub mod Following
pub mod Steps
