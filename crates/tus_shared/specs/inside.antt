-- What private functions and proofs alone need.
pub mod StoreRule
pub mod DeskRule
pub mod QueueRule
