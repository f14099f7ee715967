-- What only proofs need: how the book keeps its uploads.
pub mod Back
pub mod ChargeAfter
pub mod FinalBack
pub mod HeldBytes
pub mod Ids
pub mod Kept
pub mod KeptUpload
pub mod Notes
pub mod PieceRefusal
pub mod Pieces
pub mod Places
pub mod Swept
pub mod Texts
