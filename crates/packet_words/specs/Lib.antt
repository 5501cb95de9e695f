-- How messages cross as words.
pub mod Words
pub mod ReadBack
pub mod Rows
