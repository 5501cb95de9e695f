-- What leaves an event, for a caller.
pub mod Leaving
pub mod Sent
