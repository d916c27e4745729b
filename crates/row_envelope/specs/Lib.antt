pub mod Envelope
pub mod Hull
pub mod Workspace
