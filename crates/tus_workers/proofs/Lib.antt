pub mod DescriptorLemmas
pub mod TurnLemmas
