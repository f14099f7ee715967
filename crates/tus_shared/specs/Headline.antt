-- The headline: what is true of the book behind the lock whenever the lock is got.
use Rattle.std.specs.Prelude.{◌≡◌, ◌≤◌, ℕ, List, All, Option, map}
use Rattle.upload_book.specs.BlockBook.{AreCounted, AreExtents, AreOwn, FitsPool, all_read, all_segments, blocks_of}
use Rattle.upload_book.specs.Book.{StoredBook, plain_of}
use Rattle.upload_book.specs.Charge.{charge_in}
use Rattle.upload_book.specs.declared.head_row.Kind.TheVariants.{Final}
use Rattle.upload_book.specs.declared.head_row.Name.{Name}
use Rattle.upload_book.specs.Events.{ChangeEvent, HasUpload}
use Rattle.upload_book.specs.Lawful.{IsLawful}
use Rattle.upload_book.specs.Settings.{Settings}
use Rattle.upload_book.specs.Upload.{Upload}
use Rattle.head_board.specs.Event.{Event}
use Rattle.head_board.specs.Events.{HaveHappened, book_at, change_event}
use Rattle.tus_shared.specs.Finals.{ComesBy}

-- `events` are all that happened to the book since its opening with these settings: the changes that it accepted, in their
-- order. The plain book is the book of byte lists after them. `journal` is the key of the journal, if there is one.
pub record Headline (s : Settings) (journal : Option ℕ) (events : List Event) (book : StoredBook) : Type 0 where
  -- every block is free or counted by exactly its holders, and no block is two tenants';
  pub counted : AreCounted (blocks_of book)
  -- every upload's bytes read through its blocks are those of the plain book,
  pub read : all_read (blocks_of book) ≡ all_segments (book_at s events)
  -- for which the book stands, with all else that it tells;
  pub stands : plain_of book ≡ book_at s events
  -- each final of it is the concatenation that it was created from: one of the events joined it; with a journal one of an
  -- earlier opening may have, and then the snapshot that the journal began with brought it;
  pub finals :
      (name : Name) (u : Upload)
      → u.kind ≡ Final → HasUpload (book_at s events) name u
      → ComesBy journal s (map {A = Event} {B = ChangeEvent} change_event events) name u
  -- no tenant exceeds its quota;
  pub quotas : All (λ part. charge_in s.numbers part ≤ part.quota) (book_at s events).tenants
  -- each event happened to the book of its time, so each was accepted there.
  pub happened : HaveHappened s events
  -- Beside the headline: the free blocks and what the tenants pay make all blocks, a segment has exactly as many blocks as
  -- its bytes take, an upload that no final one can hold has its blocks alone, and the plain book is lawful.
  pub paid : FitsPool (blocks_of book).pool (book_at s events)
  pub extents : AreExtents (blocks_of book)
  pub own : AreOwn (blocks_of book) (book_at s events)
  pub lawful : IsLawful (book_at s events)
