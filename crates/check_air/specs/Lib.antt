-- What holds of the exported functions together: a message from one laptop's call to another's, and demand 3 of a whole group of callers.
pub mod Air
pub mod Callers
pub mod Opened
pub mod Late
pub mod Answered
pub mod Morning
