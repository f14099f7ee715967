-- What is proved of all lines of a log: each is one line of printable ASCII with so many spaces, whatever a client sent.
use Rattle.std.specs.Prelude.{◌≡◌, ℕ, ◌<◌, ◌≤◌, ◌^◌, ◌==◌, List, [], ◌∷◌, ◌++◌, All, count_by, IfSome}
use Rattle.service_watch.specs.CutLine.{CutLine}
use Rattle.service_watch.specs.Line.{cut_text, request_text}
use Rattle.service_watch.specs.RequestLine.{RequestLine}

abbrev pub AreBytes : List ℕ → Type 0
AreBytes text = All (λ b. b < 256) text

-- printable ASCII and then LF, with so many spaces
pub record IsOneLine (spaces : ℕ) (text : List ℕ) : Type 0 where
  pub front : List ℕ
  pub ends : text ≡ front ++ 10 ∷ []
  pub printable : All (λ b. (32 ≤ b) × (b ≤ 126)) front
  pub parted : count_by (λ b. b == 32) front ≡ spaces

-- its moment is before the year 10000, its texts are bytes, and its numbers have at most 64 bits
pub record FitsRequest (l : RequestLine) : Type 0 where
  pub moment : l.moment ≤ 253402300799
  pub peer : AreBytes l.peer
  pub tenant : AreBytes l.tenant
  pub path : AreBytes l.path
  pub word : AreBytes l.word
  pub status : IfSome l.status (λ status. status < 2 ^ 64)
  pub received : l.received < 2 ^ 64
  pub sent : l.sent < 2 ^ 64
  pub micros : l.micros < 2 ^ 64

pub record FitsCut (l : CutLine) : Type 0 where
  pub moment : l.moment ≤ 253402300799
  pub peer : AreBytes l.peer

-- five spaces are the date's, and one stands before each word
abbrev pub RequestsAreOneLine : Type 0
RequestsAreOneLine = (l : RequestLine) → FitsRequest l → IsOneLine 15 (request_text l)

abbrev pub CutsAreOneLine : Type 0
CutsAreOneLine = (l : CutLine) → FitsCut l → IsOneLine 8 (cut_text l)
