pub mod TearingLemmas
