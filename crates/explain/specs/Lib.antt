pub mod Asked
pub mod Shown
