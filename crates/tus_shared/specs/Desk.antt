-- What is seen of a desk.
use Rattle.std.specs.Prelude.{◌≡◌, ℕ, zero, suc, ◌+◌, ◌%◌, ◌^◌, Bool, false, List, [], ◌∷◌, ◌++◌, length, Option}
use Rattle.upload_book.specs.Settings.{Settings}
use Rattle.head_board.specs.Event.{Event}
use Rattle.head_board.specs.Events.{book_at}
use Rattle.tus_shared.specs.Journal.{Queueing, journal_len}

-- Its number among the desks of one opening, from 0; the key under which changes are journalled, where they are; its three
-- shares: how many blocks the steps that it made charged, how many they released, and how many of them changed the book; the
-- events that it has seen, and those that it was told to be kept; how many bytes of records it may still queue; whether its
-- reader has missed the board (`head_board/specs/Board`); and how many steps it made with the lock, counted in a word.
pub record Desk : Type 0 where
  pub number : ℕ
  pub journal : Option ℕ
  pub charged : ℕ
  pub released : ℕ
  pub made : ℕ
  pub seen : List Event
  pub kept : List Event
  pub room : ℕ
  pub missed : Bool
  pub steps : ℕ

-- a desk that has made no step
abbrev pub new_desk : Option ℕ → ℕ → Desk
new_desk journal number = record {
  number = number;
  journal = journal;
  charged = 0;
  released = 0;
  made = 0;
  seen = [];
  kept = [];
  room = 0;
  missed = false;
  steps = 0;
}

-- what the desk has for the record of a change of which this frame was made
abbrev pub queueing : Desk → Option (List ℕ) → Queueing
queueing desk frame = record { journal = desk.journal; frame = frame; room = desk.room }

-- the count after this one: after the last that a word holds comes 0
abbrev pub next_count : ℕ → ℕ
next_count n = (n + 1) % 2 ^ 64

-- the new desks of the numbers below an end, in their order
abbrev pub new_desks : Option ℕ → ℕ → List Desk
new_desks journal zero = []
new_desks journal (suc n) = new_desks journal n ++ new_desk journal n ∷ []

-- The desk made a step that led from some events to others: each of its shares rises by what the book's total rises by,
-- or the number of events. Its number and its journal stay, and it learns of no event that it is kept.
pub record Moves (s : Settings) (before after : List Event) (old new : Desk) : Type 0 where
  pub number : new.number ≡ old.number
  pub journal : new.journal ≡ old.journal
  pub kept : new.kept ≡ old.kept
  pub charged : new.charged + (book_at s before).charged ≡ old.charged + (book_at s after).charged
  pub released : new.released + (book_at s before).released ≡ old.released + (book_at s after).released
  pub made : new.made + length before ≡ old.made + length after

-- its room falls by the length of the frames of what happened in that step
abbrev pub Spends : List Event → List Event → Desk → Desk → Type 0
Spends before after old new = new.room + journal_len old.journal after ≡ old.room + journal_len old.journal before
