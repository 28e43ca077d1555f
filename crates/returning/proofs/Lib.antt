pub mod Bounded
pub mod Returned
