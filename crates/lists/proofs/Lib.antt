pub mod AnyBelow
pub mod FirstLeast
pub mod FirstSome
pub mod ListBelow
pub mod Same
pub mod Sums
