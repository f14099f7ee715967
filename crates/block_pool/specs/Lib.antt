pub mod Blocks
pub mod FreeList
pub mod Laws
