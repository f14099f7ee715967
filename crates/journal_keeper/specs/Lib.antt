pub mod Compaction
pub mod Granting
pub mod Keeper
pub mod Numbers
pub mod Opening
