pub mod Returning
pub mod Reasons
pub mod LoadedLaws
