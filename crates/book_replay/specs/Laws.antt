-- Records of what happened to a book, and what is made of them.
use Rattle.std.specs.Prelude.{◌≡◌, ℕ, List, Ok}
use Rattle.std.specs.List.{AllByRecursion}
use Rattle.journal_records.specs.Records.{AreBytes}
use Rattle.upload_book.specs.Events.{ChangeEvent, book_after_all}
use Rattle.upload_book.specs.PlainBook.{PlainBook}
use Rattle.book_replay.specs.Replay.{AllHappen, records_of, replayed}

-- the records of all that happened to a book make the book after it
abbrev pub EventsAreReplayed : Type 0
EventsAreReplayed = (number : ℕ) (b : PlainBook) (events : List ChangeEvent) → AllHappen b events → replayed number b (records_of events) ≡ Ok (book_after_all b events)

-- the records are those of events that happened to a book, one each, and this is the book after them
pub record IsReplay (b : PlainBook) (records : List (List ℕ)) (after : PlainBook) : Type 0 where
  pub events : List ChangeEvent
  pub spelled : records ≡ records_of events
  pub happened : AllHappen b events
  pub book : after ≡ book_after_all b events

-- records of which a book is made are those of events that happened to it, and it is the book after these
abbrev pub ReplaysTellEvents : Type 0
ReplaysTellEvents = (number : ℕ) (b : PlainBook) (records : List (List ℕ)) (after : PlainBook)
    → AllByRecursion AreBytes records
    → replayed number b records ≡ Ok after
    → IsReplay b records after
