-- The exported functions on packets: what they answer, that they are inverse, and that one pass gives what each fetch gives.
pub mod Calls
pub mod RoundTrip
pub mod OnePass
