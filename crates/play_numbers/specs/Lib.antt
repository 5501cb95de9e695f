-- Numbers in decimal (01, "The playing program").
pub mod Number
