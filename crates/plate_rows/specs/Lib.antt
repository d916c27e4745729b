pub mod Each
pub mod Trays
pub mod Judging
pub mod Judged
pub mod Rereading
pub mod Racks
pub mod Images
pub mod Laws
