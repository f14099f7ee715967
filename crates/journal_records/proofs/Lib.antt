pub mod Again
pub mod Kept
pub mod Parts
pub mod Spelled
