-- What is done of a change, and what is told and kept of it.
use Rattle.std.specs.Prelude.{◌≡◌, ◌⊎◌, ℕ, List, [], ◌∷◌, Option, Result, Ok, Err, IfOk, IfErr, OnOk, OnErr, IsOk}
use Rattle.tus_steps.specs.Changing.{change_reply}
use Rattle.tus_steps.specs.declared.reply.Reply.{Reply}
use Rattle.tus_steps.specs.Request.{Request}
use Rattle.upload_book.specs.Change.{MayLackFor, book_after_change, change_answer, change_lacking}
use Rattle.upload_book.specs.declared.append.Refused.{Refused}
use Rattle.upload_book.specs.declared.change.Change.{Change}
use Rattle.upload_book.specs.declared.change.Outcome.{Outcome}
use Rattle.upload_book.specs.Events.{ChangeEvent}
use Rattle.upload_book.specs.PlainBook.{PlainBook}
use Rattle.upload_book.specs.Refusal.{IsAnswer}
use Rattle.kept_book.specs.declared.done.Done.{Done}
use Rattle.kept_book.specs.declared.done.Done.TheVariants.{Told, Unkept}

-- a change is answered and made as the plain book does, or refused where memory lacks
pub record IsTold (b : PlainBook) (change : Change) (now : ℕ) (outcome : Result Outcome Refused) (after : PlainBook) : Type 0 where
  pub answer : IfOk outcome (λ told. change_answer b change now ≡ Ok told)
  pub made : OnOk outcome (after ≡ book_after_change b change now)
  pub refused : IfErr outcome (λ why. IsAnswer (change_answer b change now) (MayLackFor b change now) (change_lacking b change now) (Err why))
  pub stays : OnErr outcome (after ≡ b)

-- what was done of a change: it was told so; or the book accepts it, and it was refused as where memory lacks, since there is
-- no room for its record
abbrev pub IsDone : PlainBook → Change → ℕ → Done → PlainBook → Type 0
IsDone b change now (Told outcome) after = IsTold b change now outcome after
IsDone b change now (Unkept refused) after =
    IsOk (change_answer b change now) × (Err refused ≡ change_lacking b change now) × (after ≡ b)

-- A change is refused: as the book refuses it, or, where the book accepts it, as where memory lacks.
abbrev pub IsRefused : PlainBook → Change → ℕ → Refused → Type 0
IsRefused b change now why =
    (change_answer b change now ≡ Err why) ⊎ (IsOk (change_answer b change now) × (Err why ≡ change_lacking b change now))

-- the events that it adds: the change, where it was made
abbrev pub added : Done → Change → ℕ → List ChangeEvent
added (Told (Ok outcome)) change now = record { change = change; now = now } ∷ []
added (Told (Err why)) change now = []
added (Unkept refused) change now = []

-- the reply to what was done
abbrev pub done_reply : Request → Option ℕ → Done → Reply
done_reply r offset (Told outcome) = change_reply r offset outcome
done_reply r offset (Unkept refused) = change_reply r offset (Err refused)
