pub mod Fault
pub mod Laws
pub mod Made
pub mod Replay
pub mod Snapshot
