pub mod Export
pub mod Held
pub mod JournalSettings
pub mod ProgramFault
pub mod ReadJournal
pub mod Renewed
pub mod Shortage
pub mod StreamUse
