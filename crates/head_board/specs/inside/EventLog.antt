-- The log of what happened. Each copy, the writer and each reader has seen a prefix of it.
use Rattle.std.specs.Prelude.{◌≡◌, ℕ, ◌==◌, true, List, [], ◌∷◌, ◌++◌, length, MatchBool, ◌⊎◌}
use mathlib.Core.List.{IsPrefix}
use Rattle.logbook.specs.Pages.{Book, Cell, Named, Step, View}
use Rattle.head_board.specs.Event.{Event}

-- which log it is, and the events of it that were seen
pub record LogPrefix : Type 0 where
  pub book : Book
  pub events : List Event

-- what was seen of a log at the one of two places that has seen more
abbrev pub IsMore : LogPrefix → LogPrefix → LogPrefix → Type 0
IsMore one other more =
    (IsPrefix one.events other.events × (more ≡ other)) ⊎ (¬ (IsPrefix one.events other.events) × (more ≡ one))

-- the first word is the number of events; a log has two words, of which this one leaves the second at 0
abbrev pub IsLog : List Cell → List Event → Type 0
IsLog cells log = cells ≡ (length log, true) ∷ (0, true) ∷ []

-- the word of a log
abbrev pub word_of : Book → Named
word_of b = record { tracked = true; key = 0; book = b }

-- where the number was found that was expected, the event was added to all that had been seen
abbrev pub Adds : Step Event → View Event ℕ → ℕ → View Event ℕ → Type 0
Adds s v found w = MatchBool (found == s.old) (w.0 ≡ v.0 ++ s.ask ∷ []) (Unit {0})
