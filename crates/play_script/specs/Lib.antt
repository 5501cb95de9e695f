-- What the lines of a script mean (01, "The playing program").
pub mod Seek
pub mod Text
pub mod Command
