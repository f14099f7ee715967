pub mod Lists
pub mod Rounds
pub mod inside
