pub mod Arrival
pub mod Arriving
