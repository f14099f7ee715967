-- A snapshot of a book, its pieces, and how they are put back.
pub mod Restore
pub mod RestoreLaws
pub mod Restored
pub mod Snapshot
