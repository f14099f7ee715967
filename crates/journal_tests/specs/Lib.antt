pub mod Tearing
