pub mod Lines
pub mod Statuses
pub mod CommonErrors
pub mod Telling
