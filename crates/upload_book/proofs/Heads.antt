-- The heads of a book after each change, and the line of each.
pub mod HeadParts
pub mod HeadsNew
pub mod HeadsCreate
pub mod HeadsConcat
pub mod HeadsAppend
pub mod HeadsFewer
pub mod HeadsRestore
pub mod HeadsLemmas
pub mod Tables
pub mod LineLemmas
pub mod LineSteps
pub mod LineBack
