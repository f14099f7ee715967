pub mod CrashLemmas
pub mod FirstFrames
pub mod Headers
pub mod Losses
pub mod Readings
pub mod Sums
pub mod TornTails
pub mod WholeFrames
