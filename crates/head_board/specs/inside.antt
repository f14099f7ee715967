-- What private functions and proofs alone need.
pub mod EventLog
pub mod BoardRow
pub mod RowPlace
pub mod RowList
pub mod Rows
pub mod HeadTable
pub mod LastChanges
pub mod ComingTexts
pub mod Showing
pub mod BoardRule
