-- Laws of the text of a script.
pub mod Places
pub mod Words
