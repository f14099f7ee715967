pub mod CompactionLemmas
pub mod DeskLemmas
pub mod FrameLemmas
pub mod KeeperLemmas
pub mod OpeningLemmas
