pub mod Chains
pub mod Largest
pub mod Table
