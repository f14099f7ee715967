-- What is done of the change that a request asks for is its step.
use Rattle.std.proofs.Common.{◌≡◌, ℕ, List, [], ◌++◌, Option, Some, None, Result, Ok, Err, IfOk, IsOk, IsErr, inl, inr, refl, sym, ap, subst, ◌∙◌}
use Rattle.std.specs.Prelude.{is_ok}
use Rattle.std.proofs.lemmas.List.{append-nil}
use Rattle.sqlite_disk.specs.declared.Disk.{Ghosts}
use Rattle.tus_steps.proofs.AskedLemmas.{made-step}
use Rattle.tus_steps.specs.Asked.{asked_in, change_in}
use Rattle.tus_steps.specs.Changing.{IsStepOf, change_found, change_reply}
use Rattle.tus_steps.specs.declared.asked.Asked.TheVariants as asks
use Rattle.tus_steps.specs.declared.reply.Reply.{Reply}
use Rattle.tus_steps.specs.declared.requested_change.ChangeOf.{ChangeOf}
use Rattle.tus_steps.specs.Request.{Request}
use Rattle.tus_steps.specs.Step.{IsStep}
use Rattle.upload_book.specs.Change.{MayLackFor, appended_in, change_answer, change_lacking, outcome_in}
use Rattle.upload_book.specs.declared.append.Appended.{Appended}
use Rattle.upload_book.specs.declared.append.Refused.{Refused}
use Rattle.upload_book.specs.declared.change.Change.{Change}
use Rattle.upload_book.specs.declared.change.Change.TheVariants as change
use Rattle.upload_book.specs.declared.change.Outcome.{Outcome}
use Rattle.upload_book.specs.declared.change.Outcome.TheVariants as outcome
use Rattle.upload_book.specs.declared.refusal.Refusal.{Refusal}
use Rattle.upload_book.specs.declared.restored.Restored.TheVariants as piece
use Rattle.upload_book.specs.Events.{ChangeEvent}
use Rattle.upload_book.specs.PlainBook.{PlainBook}
use Rattle.upload_book.specs.Refusal.{IsAnswer, unless}
use Rattle.upload_book.specs.Settings.{Settings}
use Rattle.kept_book.specs.Answer.{GoesOn, IsKeptStep, IsUnkeptAnswer}
use Rattle.kept_book.specs.declared.done.Done.{Done}
use Rattle.kept_book.specs.declared.done.Done.TheVariants.{Told, Unkept}
use Rattle.kept_book.specs.declared.kept.KeptBook.{KeptBook}
use Rattle.kept_book.specs.Done.{IsDone, IsRefused, done_reply}
use Rattle.kept_book.specs.Kept.{IsKept}

-- what was found of a request under the settings of a book
pub found-of : (s settings : Settings) (r : Request) (asked : ChangeOf) → asks.Change asked ≡ asked_in s r → s ≡ settings → change_found settings r ≡ Some asked
found-of s settings r asked is same = ap (λ (t : Settings). change_found t r) (sym same) ∙ ap change_in (sym is)

pub done-step : (b : PlainBook) (r : Request) (now : ℕ) (asked : ChangeOf) (done : Done) (told : Reply) (after : PlainBook) → IsStepOf b r now asked → change_found b.settings r ≡ Some asked → told ≡ done_reply r asked.offset done → IsDone b asked.change now done after
    → IsKeptStep b r now told after
done-step b r now asked (Told outcome) told after steps found is done =
    inl (subst (λ (reply : Reply). IsStep b r now reply after) (sym is) (made-step b r now asked outcome after steps done.answer done.made done.refused done.stays))
done-step b r now asked (Unkept refused) told after steps found is done =
    inr (record { asked = asked; found = found; accepted = done.0; told = is ∙ ap (change_reply r asked.offset) done.1; same = done.2 })

-- what is given is an outcome
given-accepted : {A : Type 0} (outcome : A → Outcome) (given : Result A Refusal) → IsOk given → IsOk (outcome_in outcome given)
given-accepted outcome (Ok value) is = refl
given-accepted outcome (Err why) is = is

appended-accepted : (given : Result Appended Refused) → IsOk given → IsOk (appended_in given)
appended-accepted (Ok value) is = refl
appended-accepted (Err why) is = is

-- a change for which memory may lack is accepted
lacks-accepted : (b : PlainBook) (made : Change) (now : ℕ) → MayLackFor b made now → IsOk (change_answer b made now)
lacks-accepted b (change.Create tenant new first) now lacks = given-accepted outcome.Created _ lacks.0
lacks-accepted b (change.Append name chunk) now lacks = appended-accepted _ lacks.0
lacks-accepted b (change.Concat tenant new) now lacks = given-accepted outcome.Created _ lacks
lacks-accepted b (change.Terminate name) now lacks = absurd lacks
lacks-accepted b change.Sweep now lacks = absurd lacks
lacks-accepted b (change.Restore (piece.Upload tenant r)) now lacks =
    ap (λ (refusal : Option Refusal). is_ok (outcome_in (λ given. given) (unless refusal outcome.Restored))) lacks
lacks-accepted b (change.Restore (piece.Next tenant next)) now lacks = absurd lacks
lacks-accepted b (change.Restore (piece.Totals released)) now lacks = absurd lacks

-- a change that a preparation refuses
pub refused-by : (b : PlainBook) (made : Change) (now : ℕ) (why : Refused)
    → IsAnswer (change_answer b made now) (MayLackFor b made now) (change_lacking b made now) (Err why) → IsRefused b made now why
refused-by b made now why (inl same) = inl (sym same)
refused-by b made now why (inr lacks) = inr (lacks-accepted b made now lacks.0, lacks.1)

-- a request that asks for one change
one-asked : (b : PlainBook) (r : Request) (now : ℕ) (asked other : ChangeOf) (why : Refused) → change_found b.settings r ≡ Some asked → change_found b.settings r ≡ Some other
    → change_answer b asked.change now ≡ Err why → IsErr (change_answer b other.change now)
one-asked b r now asked other why found is refused = cc

-- the answer to a request whose change is refused so, where nothing more can be kept
pub unkept-answer : (b : PlainBook) (r : Request) (now : ℕ) (asked : ChangeOf) (why : Refused) (told : Reply) → IsStepOf b r now asked → change_found b.settings r ≡ Some asked
    → told ≡ change_reply r asked.offset (Err why) → IsRefused b asked.change now why → IsUnkeptAnswer b r now told
unkept-answer b r now asked why told steps found is (inl refused) =
    inl (
      λ other other_found. one-asked b r now asked other why found other_found refused,
      subst (λ (reply : Reply). IsStep b r now reply b) (sym is) (made-step b r now asked (Err why) b steps tt tt (inl (sym refused)) refl),
    )
unkept-answer b r now asked why told steps found is (inr lacks) =
    inr (record { asked = asked; found = found; accepted = lacks.0; told = is ∙ ap (change_reply r asked.offset) lacks.1; same = refl })

-- the answer to a request that asks for no change
pub unasked-answer : (b : PlainBook) (r : Request) (now : ℕ) (told : Reply) → change_found b.settings r ≡ None → IsStep b r now told b → IsUnkeptAnswer b r now told
unasked-answer b r now told none step = inl (λ other found. absurd cc, step)

-- nothing more is kept
pub stays-on : {D : Type 0} {g : Ghosts D} (kept : KeptBook D g) (s : Settings) (events : List ChangeEvent) → IsKept kept s events → GoesOn kept s events
stays-on kept s events is = record { more = []; all = subst (IsKept kept s) (sym (append-nil events)) is }

-- what is opened with some events more goes on from these
pub opened-on : {D E : Type 0} {g : Ghosts D} (r : Result (KeptBook D g) E) (IsClean : KeptBook D g → Type 0) (s : Settings) (events more : List ChangeEvent) → IfOk r (λ kept. IsClean kept → IsKept kept s (events ++ more)) → IfOk r (λ kept. IsClean kept → GoesOn kept s events)
opened-on (Ok kept) IsClean s events more is = λ clean. record { more = more; all = is clean }
opened-on (Err why) IsClean s events more is = is
