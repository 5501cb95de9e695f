pub mod Laptop
