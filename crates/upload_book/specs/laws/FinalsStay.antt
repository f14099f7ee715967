-- A final upload is the concatenation that it was created from, or what was put back, for as long as it stands (tus 1.0.0,
-- Concatenation).
use Rattle.std.specs.Prelude.{◌≡◌, ◌≢◌, ◌⊎◌, false, List, ◌∷◌, ◌++◌, All, None}
use Rattle.upload_book.specs.declared.change.Change.TheVariants.{Restore, Sweep, Terminate}
use Rattle.upload_book.specs.declared.head_row.Kind.TheVariants.{Final}
use Rattle.upload_book.specs.declared.head_row.Name.{Name}
use Rattle.upload_book.specs.declared.restored.Restored.{Restored}
use Rattle.upload_book.specs.Events.{ChangeEvent, HasUpload, IsJoinedBy, StandsAs, book_after_all}
use Rattle.upload_book.specs.Expiry.{has_expired}
use Rattle.upload_book.specs.PlainBook.{PlainBook, opening_book}
use Rattle.upload_book.specs.Settings.{Settings}
use Rattle.upload_book.specs.snapshot.RestoreLaws.{IsPutBack}
use Rattle.upload_book.specs.Upload.{Upload}

-- the event is the one that put this upload back: the book accepted it, with segments that it brings, or whose bytes stand
pub record IsPutBackBy (b : PlainBook) (e : ChangeEvent) (name : Name) (u : Upload) : Type 0 where
  pub restored : Restored
  pub is : e.change ≡ Restore restored
  pub back : IsPutBack b restored name u

-- Among the events is the one that made this upload: the concatenation of the parts that were there then, or the one that
-- put it back.
pub record IsMadeIn (b : PlainBook) (events : List ChangeEvent) (name : Name) (u : Upload) : Type 0 where
  pub before : List ChangeEvent
  pub event : ChangeEvent
  pub after : List ChangeEvent
  pub all : events ≡ before ++ event ∷ after
  pub made : IsJoinedBy (book_after_all b before) event name u ⊎ IsPutBackBy (book_after_all b before) event name u

-- The event leaves an upload: it is no DELETE of it, and no sweep at its end or later.
pub record Spares (name : Name) (u : Upload) (e : ChangeEvent) : Type 0 where
  pub owner : e.change ≢ Terminate name
  pub sweep : e.change ≡ Sweep → has_expired e.now u.expires ≡ false

-- A final upload stays whole, whatever happens to its parts or to others, until it is ended itself: by its owner or, where it has
-- an end, by a sweep from then on. Each final upload of a book after events stood before them, or was made by a concatenation among them, or was put back. At an opening none stood before.
pub record FinalsStay : Type 0 where
  pub stays :
      (b : PlainBook) (events : List ChangeEvent) (name : Name) (u : Upload)
      → u.kind ≡ Final → u.expires ≡ None → StandsAs b name u → All (λ e. e.change ≢ Terminate name) events
      → StandsAs (book_after_all b events) name u
  pub lasts :
      (b : PlainBook) (events : List ChangeEvent) (name : Name) (u : Upload)
      → u.kind ≡ Final → StandsAs b name u → All (Spares name u) events → StandsAs (book_after_all b events) name u
  pub since :
      (b : PlainBook) (events : List ChangeEvent) (name : Name) (u : Upload)
      → u.kind ≡ Final → HasUpload (book_after_all b events) name u → HasUpload b name u ⊎ IsMadeIn b events name u
  pub comes :
      (s : Settings) (events : List ChangeEvent) (name : Name) (u : Upload)
      → u.kind ≡ Final → HasUpload (book_after_all (opening_book s) events) name u
      → IsMadeIn (opening_book s) events name u
