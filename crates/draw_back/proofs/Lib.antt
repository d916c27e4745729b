pub mod DiskLemmas
pub mod DrawnLemmas
pub mod LowerLemmas
pub mod SourceLemmas
pub mod WindowLemmas
