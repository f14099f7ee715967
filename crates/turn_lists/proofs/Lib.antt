pub mod KeptLemmas
pub mod QueueLemmas
pub mod RoundLemmas
