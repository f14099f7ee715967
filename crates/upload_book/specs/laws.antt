-- The theorems of the book: each is the contract of a function of `laws`.
pub mod ContentsStay
pub mod FinalsStay
pub mod Order
pub mod PiecedCreation
pub mod PiecedPatch
pub mod PiecedPatchOfBook
pub mod Steps
