-- How fast a client goes, and for what it is cut off.
pub mod Pace
-- What comes of sending what is pending.
pub mod Sending
-- What a turn of a connection does.
pub mod Turn
-- What only proofs need.
pub mod inside
