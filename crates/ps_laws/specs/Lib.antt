pub mod Entries
pub mod Firsts
pub mod Gaps
pub mod Kinds
pub mod Nests
pub mod Shapes
pub mod Spells
pub mod Writes
