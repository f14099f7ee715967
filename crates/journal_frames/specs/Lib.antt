pub mod Crash
pub mod Frames
