pub mod Boards
pub mod Recordings
pub mod Claims
pub mod Examined
pub mod Pasts
