pub mod Sole
