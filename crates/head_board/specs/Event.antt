-- An event of a book: a change that it accepted.
use Rattle.std.specs.Prelude.{ℕ}
use Rattle.upload_book.specs.declared.change.Change.{Change}
use Rattle.upload_book.specs.declared.change.Change.TheVariants.{Sweep}

-- the number of the desk that made the change, the change with the bytes that it carries, and its moment
pub record Event : Type 0 where
  pub desk : ℕ
  pub change : Change
  pub now : ℕ

-- what stands for the value of an event, of which none is made
abbrev pub no_event : Event
no_event = record { desk = 0; change = Sweep; now = 0 }
