pub mod EscapeLemmas
pub mod LineLemmas
