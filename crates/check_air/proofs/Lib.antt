-- What is proved of the statements in specs/.
pub mod Air
pub mod Callers
pub mod Opened
pub mod Late
pub mod Answered
pub mod Morning
