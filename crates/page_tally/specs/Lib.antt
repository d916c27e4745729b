pub mod Shapes
pub mod Standing
pub mod Tallies
pub mod Uncounted
