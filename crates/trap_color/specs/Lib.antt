pub mod Opaque
pub mod There
