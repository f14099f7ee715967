-- What readers read, and the rule that it keeps.
use Rattle.std.specs.Prelude.{◌≡◌, ℕ, true, false, List, length}
use mathlib.Core.List.{IsPrefix}
use mathlib.Core.Option.{some}
use lib.ListN.{get_elem?}
use Rattle.logbook.specs.Pages.{Book}
use Rattle.upload_book.specs.declared.head_note.NotedChange.{NotedChange}
use Rattle.upload_book.specs.declared.head_note.NotedChange.TheVariants.{Created, Shared, Grown, Gone, Swept, Next, Totals}
use Rattle.upload_book.specs.declared.head_note.HeadNote.{HeadNote}
use Rattle.upload_book.specs.declared.head_row.Name.{Name}
use Rattle.upload_book.specs.Heads.{heads_of, shown}
use Rattle.upload_book.specs.Settings.{AreSound}
use Rattle.head_board.specs.Event.{Event}
use Rattle.head_board.specs.Events.{HaveHappened, book_at}
use Rattle.head_board.specs.NoBoard.{no_settings}
use Rattle.head_board.specs.inside.EventLog.{LogPrefix}
use Rattle.head_board.specs.declared.board_copy.Added.{Added}
use Rattle.head_board.specs.declared.board_copy.BoardCopy.{BoardCopy}
use Rattle.head_board.specs.declared.board_copy.LogName.{LogName}
use Rattle.head_board.specs.declared.board_copy.Note.{Note}
use Rattle.head_board.specs.declared.board_copy.Note.TheVariants.{Nothing, NoTexts, More, Adds}
use Rattle.head_board.specs.declared.board_copy.SmallChange.{SmallChange}
use Rattle.head_board.specs.declared.board_copy.SmallChange.TheVariants as small
use Rattle.head_board.specs.declared.board_copy.View.{View}
use Rattle.head_board.specs.declared.coming_texts.ComingTexts.{ComingTexts}
use Rattle.head_board.specs.inside.ComingTexts.{no_texts, with_piece}
use Rattle.head_board.specs.inside.LastChanges.{last_after, last_of}
use Rattle.head_board.specs.Room.{heads_noted}

-- a change with the texts that came before it
abbrev pub change_with : ComingTexts → SmallChange → NotedChange
change_with texts (small.Created tenant kind growth) = Created tenant (record {
  kind = kind;
  offset = growth.offset;
  declared = growth.declared;
  metadata = texts.metadata;
  concat = texts.concat;
  expires = growth.expires;
})
change_with texts (small.Shared tenant row) = Shared tenant row
change_with texts (small.Grown name growth) = Grown name growth
change_with texts (small.Gone name) = Gone name
change_with texts (small.Swept now) = Swept now
change_with texts (small.Next name) = Next name
change_with texts small.Totals = Totals

-- the copy after the note of an event, with the events up to that one
abbrev pub with_note : BoardCopy → HeadNote → LogPrefix → BoardCopy
with_note s note after = record s {
  table = heads_noted s.table note;
  seen = after;
  last_changes = last_after s.last_changes s.table note.change after;
}

-- the copy after the change of an event
abbrev pub with_added : BoardCopy → Added → BoardCopy
with_added s a = with_note s (record { change = change_with s.coming a.change; accounts = a.accounts }) a.after

-- the copy after a note
abbrev pub noted : BoardCopy → Note → BoardCopy
noted s Nothing = s
noted s NoTexts = record s { coming = no_texts }
noted s (More field piece) = record s { coming = with_piece s.coming field piece }
noted s (Adds a) = with_added s a

-- of two copies the second has the heads and the events of the first, and other texts to come
abbrev pub WithTexts : BoardCopy → BoardCopy → Type 0
WithTexts s other = other ≡ record s { coming = other.coming }

-- What a copy tells of a name rests on some of the events that it has seen: after these, and after each one that was seen
-- since, the book told the same.
pub record RestsOn (s : BoardCopy) (name : Name) (some_seen : LogPrefix) : Type 0 where
  pub log : some_seen.book ≡ s.seen.book
  pub begins : IsPrefix some_seen.events s.seen.events
  pub same : (events : List Event) → IsPrefix some_seen.events events → IsPrefix events s.seen.events
      → (now : ℕ) → shown (heads_of (book_at s.table.settings events)) name now ≡ shown s.table name now

-- The copy has the heads of the book after what happened, and for each name the events on which what it tells of it rests.
-- The book is of settings without a fault.
pub record IsCurrent (s : BoardCopy) : Type 0 where
  pub sound : AreSound s.table.settings
  pub happened : HaveHappened s.table.settings s.seen.events
  pub heads : s.table ≡ heads_of (book_at s.table.settings s.seen.events)
  pub slots : length s.last_changes ≡ 256
  pub rests : (name : Name) → RestsOn s name (last_of s.last_changes name.id)

-- the next copy is current too, and of the same book and log
pub record IsNext (s next : BoardCopy) : Type 0 where
  pub current : IsCurrent next
  pub settings : next.table.settings ≡ s.table.settings
  pub log : next.seen.book ≡ s.seen.book

-- the log of this name
abbrev pub log_of : LogName → Book
log_of n = record { number = n.number; log_name = n.log_name; cells_name = n.cells_name }

-- what is known of no board
abbrev pub no_view : View
no_view = record {
  knows = false;
  settings = no_settings;
  log = record { number = 0; log_name = 0; cells_name = 0 };
}

-- what is known of the board of this copy
abbrev pub view_of : BoardCopy → View
view_of s = record {
  knows = true;
  settings = s.table.settings;
  log = record {
    number = s.seen.book.number;
    log_name = s.seen.book.log_name;
    cells_name = s.seen.book.cells_name;
  };
}

-- what is known, if it is, is right
abbrev pub Fits : View → BoardCopy → Type 0
Fits v s = v.knows ≡ true → (v.settings ≡ s.table.settings) × (log_of v.log ≡ s.seen.book)

-- what a reader finds that has seen some events: a current copy, of the board that it knows, with these events at least
pub record IsFound (v : View) (seen : LogPrefix) (s : BoardCopy) : Type 0 where
  pub current : IsCurrent s
  pub fits : Fits v s
  pub begins : IsPrefix seen.events s.seen.events

-- the rule of the board: the copy is current, and what each place knows is right; no clause compares two places
pub record IsConsistent (s : BoardCopy) (views : List View) : Type 0 where
  pub current : IsCurrent s
  pub each : (seat : ℕ) (v : View) → get_elem? views seat ≡ some v → Fits v s
