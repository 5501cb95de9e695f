pub mod Arrival
pub mod OnePass
