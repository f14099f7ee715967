pub mod ExportLemmas
pub mod HeldLemmas
pub mod MappedLemmas
pub mod ReadLemmas
pub mod RenewingLemmas
pub mod TornLemmas
pub mod WrittenLemmas
