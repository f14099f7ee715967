-- The heads of a book follow each change by its line.
use Rattle.std.proofs.Common.{ℕ, length}
use Rattle.upload_book.specs.Change.{CanBeMade, book_after_change, head_change}
use Rattle.upload_book.specs.declared.change.Change.{Change}
use Rattle.upload_book.specs.declared.change.Change.TheVariants.{Append, Concat, Create, Restore, Sweep, Terminate}
use Rattle.upload_book.specs.laws.Steps.{HeadsFollow}
use Rattle.upload_book.specs.Lawful.{IsLawful}
use Rattle.upload_book.specs.PlainBook.{PlainBook}
use Rattle.upload_book.proofs.Heads.HeadParts.{IsFollowed}
use Rattle.upload_book.proofs.Heads.HeadsAppend.{heads-append}
use Rattle.upload_book.proofs.Heads.HeadsConcat.{heads-concat}
use Rattle.upload_book.proofs.Heads.HeadsCreate.{heads-create}
use Rattle.upload_book.proofs.Heads.HeadsFewer.{heads-sweep, heads-terminate}
use Rattle.upload_book.proofs.Heads.HeadsRestore.{heads-restore}

pub heads_follow : HeadsFollow
heads_follow b change now lawful can = followed b change now lawful can where
  followed : (b : PlainBook) (change : Change) (now : ℕ) → IsLawful b → CanBeMade (length b.tenants) change → IsFollowed b (book_after_change b change now) (head_change b change now)
  followed b (Create tenant new first) now lawful can = heads-create b tenant new first now lawful can.0 (record { metadata = can.1; concat = can.2 })
  followed b (Append name chunk) now lawful can = heads-append b name chunk now lawful
  followed b (Concat tenant new) now lawful can =
      heads-concat b tenant new now lawful can.0 (record { some = can.1; few = can.2; metadata = can.3; concat = can.4 })
  followed b (Terminate name) now lawful can = heads-terminate b name now lawful
  followed b Sweep now lawful can = heads-sweep b now lawful
  followed b (Restore restored) now lawful can = heads-restore b restored now lawful can
