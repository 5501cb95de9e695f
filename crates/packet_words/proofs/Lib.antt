pub mod Places
pub mod Fit
pub mod Refusing
pub mod ReadBack
pub mod Rows
