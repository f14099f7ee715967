-- What only proofs need: the queues behind the lists, and what is noted of each key.
pub mod Kept
pub mod KeyQueues
pub mod Queues
