-- Laws of records as bytes.
pub mod Finding
pub mod Lent
