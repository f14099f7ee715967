-- When uploads expire: the list of their ends, and sweeps.
pub mod ExpiryLemmas
pub mod ExpirySteps
pub mod EndsLemmas
pub mod BookEnds
pub mod FewEnds
pub mod SweepNone
pub mod SweepSteps
