-- A change that a book is ready for happens to it.
use Rattle.std.proofs.Common.{◌≡◌, ℕ, ◌≤◌, true, length, Option, None, Result, Ok, Err, IsOk, refl, ap, ◌∙◌}
use Rattle.std.specs.Prelude.{is_ok}
use Rattle.book_replay.specs.Replay.{Happens}
use Rattle.journal_records.specs.Records.{FitsChange}
use Rattle.upload_book.specs.Append.{told}
use Rattle.upload_book.specs.BlockStore.{upload_at}
use Rattle.upload_book.specs.Book.{StoredBook, plain_of}
use Rattle.upload_book.specs.Change.{CanBeMade, appended_in, change_answer, change_lacking, outcome_in}
use Rattle.upload_book.specs.declared.append.Refused.{Refused}
use Rattle.upload_book.specs.declared.change.Change.{Change}
use Rattle.upload_book.specs.declared.change.Outcome.{Outcome}
use Rattle.upload_book.specs.declared.change.Outcome.TheVariants as outcome
use Rattle.upload_book.specs.declared.create.Created.{Created}
use Rattle.upload_book.specs.declared.ready.Ready.{Ready}
use Rattle.upload_book.specs.declared.ready.Step.{Step}
use Rattle.upload_book.specs.declared.ready.Step.TheVariants as step
use Rattle.upload_book.specs.declared.refusal.Refusal.{Refusal}
use Rattle.upload_book.specs.declared.terminate.Removed.{Removed}
use Rattle.upload_book.specs.inside.Places.{IsVisibleIn}
use Rattle.upload_book.specs.PlainBook.{PlainBook, tenant_book}
use Rattle.upload_book.specs.Ready.{IsReady, IsReadyForStep, change_in, moment_in, step_change, step_moment}
use Rattle.upload_book.specs.Refusal.{unless}
use Rattle.upload_book.specs.TenantBook.{TenantBook, visible_upload}
use Rattle.upload_book.specs.Upload.{Upload}
use Rattle.upload_book.proofs.Heads.HeadsAppend.{appended-none}
use Rattle.upload_book.proofs.Lawful.Outcomes.{concat_answer-none, terminate_answer-visible}
use Rattle.upload_book.proofs.Steps.BookSteps.{part-plain}
use Rattle.upload_book.proofs.Restoring.PieceSteps.{piece-accepted}

-- what is not refused is answered
unless-none : (given : Created → Outcome) (refusal : Option Refusal) (created : Created) → refusal ≡ None → is_ok (outcome_in given (unless refusal created)) ≡ true
unless-none given refusal created none = ap (λ (r : Option Refusal). is_ok (outcome_in given (unless r created))) none

-- an upload that is seen at a place of the store is the plain book's
seen-plain : (b : StoredBook) (t id now place : ℕ) → IsVisibleIn b.store t id now place → visible_upload (tenant_book (plain_of b) t) id now ≡ Ok (upload_at b.store t place)
seen-plain b t id now place seen = ap (λ (part : TenantBook). visible_upload part id now) (part-plain b t) ∙ seen.visible

-- the change is accepted
ready-accepts : (b : StoredBook) (s : Step) → IsReadyForStep b s → is_ok (change_answer (plain_of b) (step_change s) (step_moment s)) ≡ true
ready-accepts b (step.Create r) ready = unless-none outcome.Created _ _ ready.accepted
ready-accepts b (step.Append r) ready =
    ap (λ (a : Result Upload Refused). is_ok (appended_in (told a)))
    (appended-none b.settings.numbers (tenant_book (plain_of b) r.name.tenant) r.name.id r.now b.charged (upload_at b.store r.name.tenant r.place) r.chunk (seen-plain b r.name.tenant r.name.id r.now r.place ready.seen) ready.accepted)
ready-accepts b (step.Concat r) ready =
    ap (λ (a : Result Created Refusal). is_ok (outcome_in outcome.Created a)) (concat_answer-none r.tenant b.settings.numbers (tenant_book (plain_of b) r.tenant) r.new r.now ready.accepted)
ready-accepts b (step.Terminate r) ready =
    ap (λ (a : Result Removed Refusal). is_ok (outcome_in outcome.Removed a))
    (terminate_answer-visible b.settings.numbers (tenant_book (plain_of b) r.name.tenant) r.name.id r.now (upload_at b.store r.name.tenant r.place) (seen-plain b r.name.tenant r.name.id r.now r.place ready.seen))
ready-accepts b (step.Sweep r) ready = refl
ready-accepts b (step.Restore r) ready =
    ap (λ (why : Option Refusal). is_ok (outcome_in (λ (given : Outcome). given) (unless why outcome.Restored))) (piece-accepted b r.piece ready)

-- under other names
pub accepted-as : (b : PlainBook) (stored : StoredBook) (r : Ready) (change : Change) (now : ℕ) → plain_of stored ≡ b → change_in r ≡ change → moment_in r ≡ now → IsReady stored r → IsOk (change_answer b change now)
accepted-as b stored r change now same is at ready =
    let accepted = ready-accepts stored r.step ready in
    rw (same, is, at) at accepted

-- and so is the refusal for want of memory
pub lacking-as : (b : PlainBook) (stored : StoredBook) (r : Ready) (change : Change) (now : ℕ) (refused : Refused) → plain_of stored ≡ b → change_in r ≡ change → moment_in r ≡ now → Err refused ≡ change_lacking (plain_of stored) (change_in r) (moment_in r)
    → Err refused ≡ change_lacking b change now
lacking-as b stored r change now refused same is at told = rw (same, is, at) at told

pub happens-ready : (b : PlainBook) (stored : StoredBook) (r : Ready) (change : Change) (now : ℕ) → CanBeMade (length b.settings.tenants) change → FitsChange change → now ≤ 253402300799 → plain_of stored ≡ b → change_in r ≡ change → moment_in r ≡ now → IsReady stored r
    → Happens b (record { change = change; now = now })
happens-ready b stored r change now asked fits moment same is at ready = record { asked = asked; accepted = accepted-as b stored r change now same is at ready; moment = moment; fits = fits }
