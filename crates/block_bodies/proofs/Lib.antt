pub mod BlocksFor
pub mod BodiesLaws
pub mod EachBlock
pub mod Putting
pub mod Reading
