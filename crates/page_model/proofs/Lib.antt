pub mod ZoneLemmas
pub mod PageLemmas
pub mod WorkedPages
mod WorkedTraps
mod WorkedZones
mod WorkedEdges
pub mod ArmLemmas
pub mod Grid
pub mod DeciderLemmas
pub mod DensityLemmas
pub mod FaultLemmas
pub mod ReachLemmas
pub mod ColumnDecider
pub mod ReachLaws
pub mod TrappedPlanes
pub mod SubpathLemmas
pub mod BandLemmas
pub mod MarkLemmas
pub mod TintLemmas
pub mod NumberSums
pub mod EdgeSums
pub mod ShapeLemmas
