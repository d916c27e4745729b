pub mod Parts
pub mod Turns
pub mod Zones
pub mod Rules
pub mod Windows
pub mod Areas
pub mod Covers
pub mod Tiles
pub mod Pages
pub mod Whole
pub mod SpanLemmas
pub mod PlanLemmas
pub mod StripLemmas
mod Covering
pub mod FormLemmas
mod Showing
pub mod StepLemmas
pub mod FarLemmas
pub mod SizeLemmas
pub mod FaultLemmas
pub mod OutlineLemmas
pub mod BegunLemmas
pub mod CoreStripLemmas
pub mod CoreLemmas
