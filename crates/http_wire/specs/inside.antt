-- What private functions, proofs and the value of a connection are stated with.
pub mod Ahead
pub mod Driving
pub mod HeadFields
pub mod HeadLayout
pub mod HeadSearch
pub mod IncomingLayout
pub mod Phases
pub mod PieceAnswer
pub mod ReplyPage
pub mod Scan
pub mod Sending
pub mod Standing
pub mod TurnFinish
pub mod WireModel
