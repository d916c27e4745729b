pub mod DensityLaw
pub mod SideLemmas
pub mod TintLemmas
