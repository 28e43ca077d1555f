pub mod StateSets
pub mod Closings
pub mod Collected
pub mod Kinds
pub mod HiddenTable
