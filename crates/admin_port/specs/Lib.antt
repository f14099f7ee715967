-- What bytes at the port for numbers ask for.
pub mod Question
