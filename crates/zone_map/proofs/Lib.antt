pub mod Widths
pub mod Products
pub mod Leans
pub mod TallyLemmas
pub mod TurnLemmas
pub mod TurnTests
pub mod CoverLemmas
pub mod ExtentLemmas
