-- Laws above the replies of desks: at several there is one list of all events, and at one no later reply falls behind.
use Rattle.std.specs.Prelude.{◌≡◌, ◌⊎◌, ℕ, ◌≤◌, ⊤, List, [], ◌∷◌, All, Option, Some, None, Result, Ok}
use mathlib.Core.List.{IsPrefix}
use Rattle.upload_book.specs.Change.{MayLackFor, change_answer, change_lacking}
use Rattle.upload_book.specs.Chunk.{Chunk}
use Rattle.upload_book.specs.declared.append.Refused.{Refused}
use Rattle.upload_book.specs.declared.change.Change.{Change}
use Rattle.upload_book.specs.declared.change.Outcome.{Outcome}
use Rattle.upload_book.specs.declared.head_row.HeadRow.{HeadRow}
use Rattle.upload_book.specs.declared.head_row.Name.{Name}
use Rattle.upload_book.specs.Operation.{Append, Look}
use Rattle.upload_book.specs.declared.refusal.Refusal.{Refusal}
use Rattle.upload_book.specs.declared.sweep.Swept.{Swept}
use Rattle.upload_book.specs.Lawful.{IsLawful}
use Rattle.upload_book.specs.PlainBook.{PlainBook}
use Rattle.upload_book.specs.Refusal.{IsAnswer}
use Rattle.upload_book.specs.Settings.{Settings}
use Rattle.tus_steps.specs.declared.reply.Reply.{Reply}
use Rattle.tus_steps.specs.declared.reply.Reply.TheVariants.{Head, Patched}
use Rattle.tus_steps.specs.Operation.{operation_of}
use Rattle.tus_steps.specs.Request.{Request}
use Rattle.tus_steps.specs.Step.{IsStep}
use Rattle.head_board.specs.Event.{Event}
use Rattle.head_board.specs.Events.{book_at}
use Rattle.tus_shared.specs.Answers.{AllFour, Answers, AnswersBatch, SeesHead, Sweeps}
use Rattle.tus_shared.specs.Desk.{Desk}
use Rattle.tus_shared.specs.Journal.{Queueing}
use Rattle.tus_shared.specs.Steps.{AddsChange, IsLeft, IsStepAt, IsSweep, IsSweepAt}
use Rattle.tus_shared.specs.Turn.{Turn}

-- In a list of all events a turn at the desk of this number is answered: its reply is the plain book's, after a beginning of
-- the list that begins with what the desk has seen. What the turn changes is the next event there, made at this desk. After
-- it the desk has seen this longer beginning.
pub record IsAnsweredIn (s : Settings) (journal : Option ℕ) (all : List Event) (number : ℕ) (turn : Turn) (reply : Reply) (seen after : List Event) : Type 0 where
  pub before : List Event
  pub begins : IsPrefix seen before
  pub lawful : IsLawful (book_at s before)
  pub within : IsPrefix after all
  pub queueing : Queueing
  pub keyed : queueing.journal ≡ journal
  pub step : IsStepAt queueing (book_at s before) turn.request turn.now reply (book_at s after)
  pub adds : AddsChange queueing s before number turn.request turn.now reply after

-- so is a batch, each turn after the one before
abbrev pub AreAnsweredIn : Settings → Option ℕ → List Event → ℕ → List Turn → List Reply → List Event → Type 0
AreAnsweredIn s journal all number [] [] seen = ⊤
AreAnsweredIn s journal all number (turn ∷ batch) (reply ∷ replies) seen =
    (after : List Event) × IsAnsweredIn s journal all number turn reply seen after × AreAnsweredIn s journal all number batch replies after
AreAnsweredIn s journal all number [] (reply ∷ replies) seen = ⊥
AreAnsweredIn s journal all number (turn ∷ batch) [] seen = ⊥

-- Where several desks answer a batch each, and all events begin with what each of them has seen at last, as `settle` says:
-- in this one list the replies of every desk are the plain book's, in the desk's own order.
abbrev pub OneLog : Type 0
OneLog =
    (s : Settings) (all : List Event) (batches : List (List Turn)) (replies : List (List Reply)) (before after : List Desk)
    → AllFour (AnswersBatch s) batches replies before after → All (λ (d : Desk). IsPrefix d.seen all) after
    → AllFour (λ batch own (old : Desk) (new : Desk). AreAnsweredIn s old.journal all old.number batch own old.seen) batches replies before after

-- the reply to a HEAD of an upload tells how many bytes that has
pub record TellsHead (s : Settings) (r : Request) (reply : Reply) (name : Name) (offset : ℕ) : Type 0 where
  pub row : HeadRow
  pub asks : operation_of s r ≡ Ok (Look name)
  pub is : reply ≡ Head row
  pub tells : row.offset ≡ offset

-- and so does the reply to a PATCH
pub record TellsPatch (s : Settings) (r : Request) (reply : Reply) (name : Name) (offset : ℕ) : Type 0 where
  pub chunk : Chunk
  pub expires : Option ℕ
  pub asks : operation_of s r ≡ Ok (Append name chunk)
  pub is : reply ≡ Patched offset expires

-- the reply to a request tells so many bytes of the upload of a name
abbrev pub TellsOffset : Settings → Turn → Reply → Name → ℕ → Type 0
TellsOffset s turn reply name offset = TellsHead s turn.request reply name offset ⊎ TellsPatch s turn.request reply name offset

-- A desk never sees less, by no call. So of two answers of it that tell an offset of one upload the later does not tell less,
-- whatever the desk did between them.
pub record LaterAnswers : Type 0 where
  pub answer : (s : Settings) (r : Request) (now : ℕ) (reply : Reply) (old new : Desk) → Answers s r now reply old new → IsPrefix old.seen new.seen
  pub sweep : (s : Settings) (now : ℕ) (swept : Option Swept) (old new : Desk) → Sweeps s now swept old new → IsPrefix old.seen new.seen
  pub head : (s : Settings) (name : Name) (now : ℕ) (row : Result HeadRow Refusal) (old new : Desk) → SeesHead s name now row old new → IsPrefix old.seen new.seen
  pub offsets :
      (s : Settings) (first later : Turn) (reply other : Reply) (a b c d : Desk)
      → Answers s first.request first.now reply a b → IsPrefix b.seen c.seen → Answers s later.request later.now other c d
      → (name : Name) (less more : ℕ) → TellsOffset s first reply name less → TellsOffset s later other name more → less ≤ more

-- Without a journal a step is the plain book's, a change that is left is refused by its answer or for want of memory, and a
-- sweep is made: none is left since its record is not queued.
pub record WithoutAJournal : Type 0 where
  pub step :
      (q : Queueing) (b : PlainBook) (r : Request) (now : ℕ) (reply : Reply) (after : PlainBook)
      → q.journal ≡ None → IsStepAt q b r now reply after → IsStep b r now reply after
  pub left :
      (q : Queueing) (b : PlainBook) (before : List Event) (change : Change) (now : ℕ) (result : Result Outcome Refused) (after : List Event)
      → q.journal ≡ None → IsLeft q b before change now result after
      → IsAnswer (change_answer b change now) (MayLackFor b change now) (change_lacking b change now) result
  pub sweep :
      (q : Queueing) (s : Settings) (before : List Event) (desk now : ℕ) (swept : Option Swept) (after : List Event)
      → q.journal ≡ None → IsSweepAt q s before desk now swept after
      → (told : Swept) × (swept ≡ Some told) × IsSweep s before desk now told after
