-- The exported functions in the words of the lists of calls.
pub mod Held
