-- That a book is put back by its snapshot.
pub mod SegmentsBack
pub mod UploadsBack
pub mod LawfulBack
pub mod FinalFound
pub mod KeptUploads
pub mod FinalRooms
pub mod FinalBack
pub mod BooksBack
pub mod NextSteps
pub mod PieceSteps
pub mod OwnBack
pub mod OwnSteps
pub mod FinalSteps
pub mod PiecesLeft
