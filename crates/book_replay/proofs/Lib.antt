pub mod MadeLemmas
pub mod ReplayLemmas
pub mod SnapshotLemmas
