pub mod Drawn
pub mod Fields
pub mod Laws
pub mod Lowers
