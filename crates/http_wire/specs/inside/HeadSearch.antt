-- A head that was found by reading, and how far the search for it has come.
use Rattle.std.specs.Prelude.{◌≡◌, ◌≤◌, ◌<◌, ◌+◌, ◌⊎◌, ℕ, true, false, List, ◌++◌, length, take, drop, Option, Some, None, ⊤}
use Rattle.http_wire.specs.inside.Ahead.{Ahead}
use Rattle.http_wire.specs.inside.Scan.{scanned}
use Rattle.http_wire.specs.HeadText.{HeadText, head_limit, head_len, text_at, blank_len, head_text, whole, too_long, cut, nothing}
use Rattle.http_wire.specs.declared.read.head_search.HeadFound.{HeadFound}
use Rattle.http_wire.specs.declared.read.head_search.HeadFound.TheVariants.{Whole, TooLong, Cut, Nothing}
use Rattle.http_wire.specs.declared.read.head_search.Search.{Search}
use Rattle.http_wire.specs.declared.read.head_text.Scan.{Scan}

-- A whole head is held, and is no longer than a head may be. One is cut, or none is there, only at the end of the input.
abbrev pub IsHeldBy : Ahead → HeadFound → Type 0
IsHeldBy a (Whole n) = (n ≤ length a.held) × (n ≤ head_limit)
IsHeldBy a TooLong = ⊤
IsHeldBy a Cut = a.ended ≡ true
IsHeldBy a Nothing = a.ended ≡ true

-- what was found is the head at the start of some bytes, whatever follows them unless the input ended
abbrev pub IsHeadFound : List ℕ → Ahead → HeadFound → Type 0
IsHeadFound bytes a (Whole n) = (rest : List ℕ) → head_text (bytes ++ rest) ≡ whole (take n a.held) (drop n a.held ++ rest)
IsHeadFound bytes a TooLong = (rest : List ℕ) → head_text (bytes ++ rest) ≡ too_long
IsHeadFound bytes a Cut = head_text bytes ≡ cut
IsHeadFound bytes a Nothing = head_text bytes ≡ nothing

-- the search for an end that saw no byte
abbrev pub scan_start : Scan
scan_start = record { before = 0; last = 0 }

-- the search for a head that saw no byte
abbrev pub search_start : Search
search_start = record { scan = scan_start; seen = 0; skipped = 0 }

-- the head in a text before which some line ends were skipped, and which may begin with more of them
abbrev pub head_from : ℕ → List ℕ → HeadText
head_from skipped input = let text = drop (blank_len input) input in text_at (skipped + blank_len input) text (head_len text)

-- line ends were skipped in some bytes, and these are left: that holds whatever follows
abbrev pub FindsSoFar : List ℕ → List ℕ → ℕ → Type 0
FindsSoFar bytes held skipped = (rest : List ℕ) → head_text (bytes ++ rest) ≡ head_from skipped (held ++ rest)

-- the first bytes that are held were searched, and no head ends in them
pub record Searched (s : Scan) (seen : ℕ) (held : List ℕ) : Type 0 where
  pub within : seen ≤ length held
  pub none : head_len (take seen held) ≡ None
  pub scan : s ≡ scanned scan_start (take seen held)

-- How far the search for the head of some bytes has come: line ends were skipped, these are left, and the first of them were
-- searched. Where any were, no line end stands before the head.
pub record Searching (bytes held : List ℕ) (s : Search) : Type 0 where
  pub finds : FindsSoFar bytes held s.skipped
  pub searched : Searched s.scan s.seen held
  pub begun : 0 < s.seen → blank_len held ≡ 0

-- more has to be read: all that is held was seen, a head may be longer, and the input has not ended
pub record NeedsMore (a : Ahead) (s : Search) : Type 0 where
  pub seen : s.seen ≡ length a.held
  pub few : s.skipped + s.seen < head_limit
  pub unended : a.ended ≡ false

-- what a look came to: the head, or how far the search has come
abbrev pub LooksFor : List ℕ → Ahead → Search → Option HeadFound → Type 0
LooksFor bytes a s None = Searching bytes a.held s
LooksFor bytes a s (Some found) = IsHeadFound bytes a found

-- some bytes have no whole head, and no head that is too long
abbrev pub IsUnfinished : List ℕ → Type 0
IsUnfinished bytes = (head_text bytes ≡ cut) ⊎ (head_text bytes ≡ nothing)
