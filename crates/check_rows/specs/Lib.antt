-- The one table of rows, and what each row says.
pub mod Rows
