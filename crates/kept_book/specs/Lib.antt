pub mod Answer
pub mod Done
pub mod Kept
pub mod OpenFault
pub mod Session
pub mod Sweeping
