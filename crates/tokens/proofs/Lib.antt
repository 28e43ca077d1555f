pub mod Runs
pub mod Sets
pub mod Names
