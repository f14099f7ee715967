pub mod ClientConnectionLemmas
pub mod TurnLemmas
