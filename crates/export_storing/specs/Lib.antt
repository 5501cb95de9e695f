-- Records put into their bytes.
pub mod Back
pub mod Storing
