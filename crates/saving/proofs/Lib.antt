pub mod Lines
pub mod Layings
