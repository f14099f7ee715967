-- That without a journal nothing is refused since its record is not queued.
use Rattle.std.specs.Prelude.{◌⊎◌}
use Rattle.std.proofs.Common.{◌≡◌, ℕ, List, Option, Some, None, IsSome, Result, inl, inr, refl, subst}
use Rattle.upload_book.specs.Change.{MayLackFor, change_answer, change_lacking}
use Rattle.upload_book.specs.declared.append.Refused.{Refused}
use Rattle.upload_book.specs.declared.change.Change.{Change}
use Rattle.upload_book.specs.declared.change.Outcome.{Outcome}
use Rattle.upload_book.specs.declared.sweep.Swept.{Swept}
use Rattle.upload_book.specs.PlainBook.{PlainBook}
use Rattle.upload_book.specs.Refusal.{IsAnswer}
use Rattle.upload_book.specs.Settings.{Settings}
use Rattle.tus_steps.specs.declared.reply.Reply.{Reply}
use Rattle.tus_steps.specs.Request.{Request}
use Rattle.tus_steps.specs.Step.{IsStep}
use Rattle.head_board.specs.Event.{Event}
use Rattle.tus_shared.specs.Journal.{Queueing}
use Rattle.tus_shared.specs.Laws.{WithoutAJournal}
use Rattle.tus_shared.specs.Steps.{IsStepAt, IsSweep, IsSweepAt, IsUnkept}

-- without a journal there is none
no-journal : {A : Type 0} (q : Queueing) → q.journal ≡ None → IsSome q.journal → A
no-journal q none there = absurd (let no = subst (λ (j : Option ℕ). IsSome j) none there in cc)

plain-step : (q : Queueing) (b : PlainBook) (r : Request) (now : ℕ) (reply : Reply) (after : PlainBook) → q.journal ≡ None → IsStepAt q b r now reply after → IsStep b r now reply after
plain-step q b r now reply after none (inl step) = step
plain-step q b r now reply after none (inr unkept) = no-journal q none unkept.unkept.journalled

plain-why : (q : Queueing) (b : PlainBook) (change : Change) (now : ℕ) (result : Result Outcome Refused) → q.journal ≡ None
    → IsAnswer (change_answer b change now) (MayLackFor b change now) (change_lacking b change now) result ⊎ (IsUnkept q b change now × (result ≡ change_lacking b change now))
    → IsAnswer (change_answer b change now) (MayLackFor b change now) (change_lacking b change now) result
plain-why q b change now result none (inl answer) = answer
plain-why q b change now result none (inr unkept) = no-journal q none unkept.0.journalled

plain-sweep : (q : Queueing) (s : Settings) (before : List Event) (desk now : ℕ) (swept : Option Swept) (after : List Event) → q.journal ≡ None → IsSweepAt q s before desk now swept after
    → (told : Swept) × (swept ≡ Some told) × IsSweep s before desk now told after
plain-sweep q s before desk now (Some told) after none sweep = (told, refl, sweep)
plain-sweep q s before desk now None after none sweep = no-journal q none sweep.0.journalled

pub without_a_journal : WithoutAJournal
without_a_journal = record {
  step = plain-step;
  left = λ q b before change now result after none left. plain-why q b change now result none left.why;
  sweep = plain-sweep;
}
