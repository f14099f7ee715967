pub mod DeskLemmas
pub mod KeptTalkLemmas
pub mod ReportLemmas
pub mod RunLemmas
pub mod ServeLemmas
pub mod SimulationLemmas
pub mod TalkInPiecesLemmas
pub mod TalkLemmas
