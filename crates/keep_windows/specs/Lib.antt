pub mod KeepWindows
pub mod UnderWindows
pub mod KeepRules
