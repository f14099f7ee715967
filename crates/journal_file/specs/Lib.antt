pub mod Appending
pub mod Draft
pub mod Journal
pub mod JournalError
pub mod Recovered
