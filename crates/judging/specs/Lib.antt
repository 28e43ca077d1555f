pub mod Earliest
pub mod Judged
pub mod Walk
pub mod Lowest
