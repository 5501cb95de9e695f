-- Laws of records put into their bytes.
pub mod Back
pub mod RoundTrip
pub mod Stores
pub mod Table
