-- Laws of the log.
pub mod Logs
