-- The journal of a store: the frames of the records of what happened, one for each event, which wait to be written.
use Rattle.std.specs.Prelude.{◌≡◌, ℕ, ◌+◌, ◌-◌, ◌*◌, ◌^◌, ◌<◌, ◌≤◌, min, List, [], ◌∷◌, ◌++◌, length, map, Option, Some, None, IsSome}
use Rattle.std.specs.List.{sum_by}
use Rattle.book_replay.specs.Replay.{AllHappen}
use Rattle.journal_frames.specs.Frames.{frames}
use Rattle.journal_records.specs.Records.{record_bytes}
use Rattle.upload_book.specs.Charge.{charge_in}
use Rattle.upload_book.specs.declared.change.Change.{Change}
use Rattle.upload_book.specs.declared.change.Change.TheVariants as change
use Rattle.upload_book.specs.Events.{ChangeEvent}
use Rattle.upload_book.specs.PlainBook.{PlainBook}
use Rattle.upload_book.specs.Settings.{Settings}
use Rattle.head_board.specs.Event.{Event}
use Rattle.head_board.specs.Events.{HaveHappened, book_at, change_event}
use Rattle.tus_shared.specs.Restoring.{RestoreNothing}
use Rattle.tus_shared.specs.declared.unqueued.Unqueued.{Unqueued}
use Rattle.tus_shared.specs.declared.unqueued.Unqueued.TheVariants.{NoFrame, NoPlace, NoRoom}

-- the frame of the record of a change and its moment, under the key of the journal; without a journal there is none
abbrev pub change_frame : Option ℕ → Change → ℕ → List ℕ
change_frame None change now = []
change_frame (Some key) change now = frames key (record_bytes now change ∷ [])

-- that of an event
abbrev pub event_frame : Option ℕ → Event → List ℕ
event_frame journal e = change_frame journal e.change e.now

-- those of events, one each, in their order
abbrev pub event_frames : Option ℕ → List Event → List (List ℕ)
event_frames journal events = map {A = Event} {B = List ℕ} (event_frame journal) events

-- how many bytes these have together
abbrev pub journal_len : Option ℕ → List Event → ℕ
journal_len journal events = sum_by (λ (e : Event). length (event_frame journal e)) events

-- How many bytes of room the record of a change leaves at least: one that ends uploads may take all, so that they can be
-- ended when nothing else has room.
abbrev pub spare_of : Change → ℕ
spare_of (change.Create tenant new first) = 65536
spare_of (change.Append name chunk) = 65536
spare_of (change.Concat tenant new) = 65536
spare_of (change.Terminate name) = 0
spare_of change.Sweep = 0
spare_of (change.Restore restored) = 65536

-- What a desk has for the record of a change: the key of the journal, if there is one; the frame that was made of it before the
-- lock was taken, if one could be made; and how many bytes of records the desk may still queue.
pub record Queueing : Type 0 where
  pub journal : Option ℕ
  pub frame : Option (List ℕ)
  pub room : ℕ

-- how many bytes of room the record of a change wants
abbrev pub wanted_room : Option ℕ → Change → ℕ → ℕ
wanted_room journal change now = length (change_frame journal change now) + spare_of change

-- Why the record of a change is not queued: there is no frame of it; or the room is less than it wants; or there are both, and
-- the queue had no place for one frame more, which is seen of the queue alone.
abbrev pub IsUnqueued : Queueing → Change → ℕ → Unqueued → Type 0
IsUnqueued q change now NoFrame = q.frame ≡ None
IsUnqueued q change now NoRoom = q.room < wanted_room q.journal change now
IsUnqueued q change now NoPlace = IsSome q.frame × (wanted_room q.journal change now ≤ q.room)

-- The events happened, one after another, to the book after those before them, and each can be made again of its record: a
-- book may be asked for its change and accepts it, and a record holds its numbers (`book_replay/specs/Replay`, `Happens`). None
-- of them restores a piece of a snapshot.
abbrev pub CanBeReplayed : Settings → List Event → List Event → Type 0
CanBeReplayed s before events = AllHappen (book_at s before) (map {A = Event} {B = ChangeEvent} change_event events) × RestoreNothing events

-- Frames that were taken out of a queue which began behind some events: they are those of the records of all events after
-- these, up to the last that happened, one each, in their order. Of these records the events can be made again.
pub record AreTaken (s : Settings) (journal : Option ℕ) (from reached : List Event) (waiting : List (List ℕ)) : Type 0 where
  pub more : List Event
  pub happened : HaveHappened s reached
  pub reaches : reached ≡ from ++ more
  pub are : waiting ≡ event_frames journal more
  pub again : CanBeReplayed s from more

-- how many bytes the blocks have that a book's tenants pay, as far as a word tells
abbrev pub held_bytes : PlainBook → ℕ
held_bytes b = min (sum_by (charge_in b.settings.numbers) b.tenants * b.settings.numbers.block_size) (2 ^ 64 - 1)
