pub mod KeptLemmas
pub mod OpeningLemmas
pub mod ReadyLemmas
pub mod SessionLemmas
pub mod StepLemmas
