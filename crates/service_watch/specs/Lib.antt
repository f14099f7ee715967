-- What is counted.
pub mod Counts
-- Text from outside, escaped.
pub mod Escape
-- What is proved of all lines of a log.
pub mod Laws
-- The lines of a log.
pub mod Line
-- A log that waits to be written.
pub mod Log
-- The families of numbers that are told.
pub mod Families
-- The numbers that are told at one moment.
pub mod Snapshot
-- Numbers in Prometheus' text format.
pub mod Metrics
-- One request, as a line tells it.
pub mod RequestLine
-- One connection that was cut off, as a line tells it.
pub mod CutLine
-- Seconds, written exactly.
pub mod Seconds
