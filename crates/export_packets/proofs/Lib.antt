pub mod RoundTrip
pub mod OnePass
