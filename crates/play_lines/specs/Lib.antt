-- The lines that the playing program prints (01, "The playing program").
pub mod Print
