-- Lines of a log that wait to be written, and what is told in them.
pub mod Lines
pub mod Telling
