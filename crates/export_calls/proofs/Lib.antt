pub mod Parts
pub mod Beginnings
pub mod Ends
pub mod Steps
pub mod Unmoved
