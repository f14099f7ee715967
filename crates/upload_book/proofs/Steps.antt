-- The book's calls as the steps of the plain book.
pub mod BookLemmas
pub mod BookSteps
pub mod PartLemmas
pub mod PatchSteps
pub mod ConcatSteps
pub mod CreateSteps
pub mod ReadyLemmas
pub mod TellBlocks
