-- What a note says of a change, before its accounts.
use Rattle.std.specs.Prelude.{◌≡◌, ℕ, Some}
use Rattle.upload_book.specs.declared.board_line.HeadChange.{HeadChange}
use Rattle.upload_book.specs.declared.change.Change.{Change}
use Rattle.upload_book.specs.declared.head_note.NotedChange.{NotedChange}
use Rattle.upload_book.specs.Change.{head_change}
use Rattle.upload_book.specs.HeadNotes.{SharesTexts, change_told}
use Rattle.upload_book.specs.Heads.{heads_of}
use Rattle.upload_book.specs.PlainBook.{PlainBook}

-- What is noted says what a change at a moment changes of the heads, and shares texts where there is no box for them.
pub record IsNoted (b : PlainBook) (change : Change) (now : ℕ) (noted : NotedChange) : Type 0 where
  pub head : HeadChange
  pub is : head_change b change now ≡ Some head
  pub told : change_told (heads_of b) noted ≡ Some head
  pub texts : SharesTexts b.settings.numbers.uploads noted
