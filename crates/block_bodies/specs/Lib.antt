pub mod Bodies
pub mod Changes
pub mod Faults
pub mod Laws
