-- Records as bytes.
pub mod Layout
