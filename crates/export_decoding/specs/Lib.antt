-- A record as bytes.
pub mod Decoding
