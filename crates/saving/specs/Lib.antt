pub mod TableText
pub mod Saved
pub mod Laying
