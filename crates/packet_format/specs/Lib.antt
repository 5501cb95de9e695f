-- What is right of a packet, rule by rule of document 01, lowest first.
pub mod Bytes
pub mod Entry
pub mod Answer
pub mod Reading
pub mod Accepting
pub mod Writing
pub mod RoundTrip
pub mod Rows
