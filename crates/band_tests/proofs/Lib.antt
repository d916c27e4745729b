pub mod OneZone
