-- Why no book is made of records.
use Rattle.std.specs.Prelude.{◌≡◌, ℕ, Result, Err, ⊤}
use Rattle.upload_book.specs.PlainBook.{PlainBook}
use Rattle.book_replay.specs.declared.fault.ReplayFault.{ReplayFault}
use Rattle.book_replay.specs.declared.fault.ReplayFault.TheVariants.{Record, Memory}

-- a record is told where it is the first that has no book after it; memory may be lacking at each
abbrev pub IsReplayFault : Result PlainBook ℕ → ReplayFault → Type 0
IsReplayFault made (Record number) = made ≡ Err number
IsReplayFault made Memory = ⊤
