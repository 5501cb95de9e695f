pub mod Viewing
