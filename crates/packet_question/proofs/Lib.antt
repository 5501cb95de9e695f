pub mod Clipping
pub mod Messages
