-- What a worker serves, what is noted of a reply, and whose turn it is.
pub mod Noting
pub mod Serving
pub mod Turns
