pub mod Bytes
pub mod Outcomes
