-- What a desk answers. Nobody knows what happened to the book behind a lock before the lock is taken. So a reply is that of
-- the plain book after some events, which begin with those that the desk has seen. That book is lawful.
use Rattle.std.specs.Prelude.{◌≡◌, ◌⊎◌, ⊤, ℕ, true, List, [], ◌∷◌, Option, Result, Ok, Err, IsErr}
use mathlib.Core.List.{IsPrefix}
use Rattle.upload_book.specs.declared.change.Change.{Change}
use Rattle.upload_book.specs.declared.head_row.HeadRow.{HeadRow}
use Rattle.upload_book.specs.declared.head_row.Name.{Name}
use Rattle.upload_book.specs.Operation.{Look}
use Rattle.upload_book.specs.declared.refusal.Refusal.{Refusal}
use Rattle.upload_book.specs.declared.refusal.Refusal.TheVariants.{Board}
use Rattle.upload_book.specs.declared.sweep.Swept.{Swept}
use Rattle.upload_book.specs.Lawful.{IsLawful}
use Rattle.upload_book.specs.Settings.{Settings}
use Rattle.tus_steps.specs.declared.reply.Reply.{Reply}
use Rattle.tus_steps.specs.Method.{is_head}
use Rattle.tus_steps.specs.Operation.{operation_of}
use Rattle.tus_steps.specs.Request.{Request}
use Rattle.head_board.specs.Board.{ReadsHead}
use Rattle.head_board.specs.Event.{Event}
use Rattle.head_board.specs.Events.{HaveHappened, book_at}
use Rattle.tus_shared.specs.declared.again_fault.AgainFault.{AgainFault}
use Rattle.tus_shared.specs.Desk.{Desk, Moves, Spends, next_count, queueing}
use Rattle.tus_shared.specs.Steps.{AddsChange, IsDoneAgain, IsStepAt, IsSweepAt}
use Rattle.tus_shared.specs.Turn.{Turn}

-- The desk answers the request at a moment with this reply. It is the plain book's, after events that begin with all that
-- the desk has seen; with a journal, a change may also be refused since its record is not queued. What the request
-- changes is the next event, made at this desk, and then the desk has seen it too. Its shares rise by what that charges and
-- releases, and by the event.
pub record Answers (s : Settings) (request : Request) (now : ℕ) (reply : Reply) (old new : Desk) : Type 0 where
  pub before : List Event
  pub begins : IsPrefix old.seen before
  pub lawful : IsLawful (book_at s before)
  pub happened : HaveHappened s new.seen
  pub frame : Option (List ℕ)
  pub step : IsStepAt (queueing old frame) (book_at s before) request now reply (book_at s new.seen)
  pub adds : AddsChange (queueing old frame) s before old.number request now reply new.seen
  pub moves : Moves s before new.seen old new
  pub spends : Spends before new.seen old new

-- the same of a sweep at a moment, which tells what it ended
pub record Sweeps (s : Settings) (now : ℕ) (swept : Option Swept) (old new : Desk) : Type 0 where
  pub before : List Event
  pub begins : IsPrefix old.seen before
  pub lawful : IsLawful (book_at s before)
  pub happened : HaveHappened s new.seen
  pub frame : Option (List ℕ)
  pub sweep : IsSweepAt (queueing old frame) s before old.number now swept new.seen
  pub moves : Moves s before new.seen old new
  pub spends : Spends before new.seen old new

-- The desk makes a change again whose record stands in the journal, or does not, for this reason; its room stays.
pub record MakesAgain (s : Settings) (change : Change) (now : ℕ) (result : Result ⊤ AgainFault) (old new : Desk) : Type 0 where
  pub before : List Event
  pub begins : IsPrefix old.seen before
  pub lawful : IsLawful (book_at s before)
  pub happened : HaveHappened s new.seen
  pub again : IsDoneAgain s before old.number change now result new.seen
  pub moves : Moves s before new.seen old new
  pub room : new.room ≡ old.room

-- nothing changes of the desk but what it has seen
abbrev pub OnlySeesMore : Desk → Desk → Type 0
OnlySeesMore old new = new ≡ record old { seen = new.seen }

-- the desk has missed the board, and else is as it was
abbrev pub MissesBoard : Desk → Desk → Type 0
MissesBoard old new = new ≡ record old { missed = true }

-- The desk looked at the board, and did nothing else: it may have seen more, and it may have missed the board.
pub record OnlyLooks (old new : Desk) : Type 0 where
  pub alone : new ≡ record old { seen = new.seen; missed = new.missed }
  pub begins : IsPrefix old.seen new.seen
  pub missed : old.missed ≡ true → new.missed ≡ true

-- A HEAD of an upload at a desk reads the board, where it finds events that begin with those which the desk has seen, and
-- the desk has seen these then; or the desk has missed the board.
abbrev pub SeesHead : Settings → Name → ℕ → Result HeadRow Refusal → Desk → Desk → Type 0
SeesHead s name now row old new =
    (ReadsHead s old.seen new.seen name now row × OnlySeesMore old new) ⊎ ((row ≡ Err Board) × MissesBoard old new)

-- the request is a HEAD that is refused before any upload is looked at
pub record IsRefusedHead (s : Settings) (request : Request) : Type 0 where
  pub head : is_head request.method ≡ true
  pub refused : IsErr (operation_of s request)

-- the request is a HEAD of an upload
pub record IsUploadHead (s : Settings) (request : Request) : Type 0 where
  pub head : is_head request.method ≡ true
  pub name : Name
  pub looks : operation_of s request ≡ Ok (Look name)

-- the request asks what stands of an upload, as HEADs alone do
abbrev pub AsksToLook : Settings → Request → Type 0
AsksToLook s request = (name : Name) × (operation_of s request ≡ Ok (Look name))

-- What a desk answers to a turn, with the lock or beside it: a HEAD that is refused before any upload is looked at looks at
-- nothing, and the desk stays; a HEAD of an upload makes no step with the lock, unless the desk has missed the board; and all
-- else makes one.
pub record AnswersTurn (s : Settings) (request : Request) (now : ℕ) (reply : Reply) (old new : Desk) : Type 0 where
  pub answers : Answers s request now reply old new
  pub unseen : IsRefusedHead s request → new ≡ old
  pub beside : IsUploadHead s request → (new.steps ≡ old.steps) ⊎ (new.missed ≡ true)
  pub counted : ¬ (AsksToLook s request) → ¬ (IsRefusedHead s request) → new.steps ≡ next_count old.steps

-- The replies to a batch at a desk, one for each of its turns, in their order: each turn is answered at the desk as the
-- one before left it.
abbrev pub AnswersBatch : Settings → List Turn → List Reply → Desk → Desk → Type 0
AnswersBatch s [] [] old new = new ≡ old
AnswersBatch s (turn ∷ batch) (reply ∷ replies) old new =
    (between : Desk) × AnswersTurn s turn.request turn.now reply old between × AnswersBatch s batch replies between new
AnswersBatch s [] (reply ∷ replies) old new = ⊥
AnswersBatch s (turn ∷ batch) [] old new = ⊥

-- the elements of four lists go together, place by place
abbrev pub AllFour : {A B C D : Type 0} → (A → B → C → D → Type 0) → List A → List B → List C → List D → Type 0
AllFour P [] [] [] [] = ⊤
AllFour P (x ∷ xs) (y ∷ ys) (z ∷ zs) (w ∷ ws) = P x y z w × AllFour P xs ys zs ws
AllFour P xs ys zs ws = ⊥
