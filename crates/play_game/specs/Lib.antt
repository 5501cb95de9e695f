-- What the playing program prints (01, "The playing program").
pub mod Play
pub mod Cluster
pub mod Agreed
