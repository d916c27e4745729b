pub mod NestLemmas
pub mod PlaceLemmas
pub mod RunLemmas
pub mod RectLemmas
