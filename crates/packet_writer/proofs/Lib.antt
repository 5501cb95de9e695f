pub mod Messages
pub mod Answers
