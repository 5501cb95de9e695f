-- Laws of printed lines.
pub mod Printing
