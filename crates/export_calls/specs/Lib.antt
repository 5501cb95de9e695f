pub mod Part
pub mod Calls
pub mod Steps
