-- What is played, and that it is a run.
pub mod Clusters
pub mod Turns
pub mod Games
pub mod Agreeing
