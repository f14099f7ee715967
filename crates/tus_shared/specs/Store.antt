-- What is kept behind the lock. Of a store all that happened to its book is seen: the events, one after another.
use Rattle.std.specs.Prelude.{◌≡◌, List}
use Rattle.upload_book.specs.PlainBook.{PlainBook}
use Rattle.upload_book.specs.Settings.{Settings}
use Rattle.head_board.specs.Event.{Event}
use Rattle.head_board.specs.Events.{HaveHappened, book_at}

-- the events happened to a book from its opening with these settings on, and it is the one after them
pub record IsBookAt (s : Settings) (events : List Event) (book : PlainBook) : Type 0 where
  pub happened : HaveHappened s events
  pub is : book ≡ book_at s events
