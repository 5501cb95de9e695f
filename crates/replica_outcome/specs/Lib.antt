-- The bytes of a value, for every store.
pub mod Placing
