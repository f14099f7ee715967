pub mod ChainLemmas
pub mod LookLemmas
pub mod TableLemmas
