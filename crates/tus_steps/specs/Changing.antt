-- A request that changes the book, where that is done in two halves (tus 1.0.0, Core Protocol, Creation, Concatenation
-- and Termination).
use Rattle.std.specs.Prelude.{◌≡◌, ℕ, length, Option, Some, None, Result, Ok, Err}
use Rattle.upload_book.specs.Change.{MayLackFor, book_after_change, change_answer, change_lacking}
use Rattle.upload_book.specs.declared.append.Refused.{Refused}
use Rattle.upload_book.specs.declared.change.Outcome.{Outcome}
use Rattle.upload_book.specs.declared.change.Outcome.TheVariants.{Appended, Created, Removed, Restored, Swept}
use Rattle.upload_book.specs.Lawful.{IsLawful}
use Rattle.upload_book.specs.PlainBook.{PlainBook}
use Rattle.upload_book.specs.Settings.{Settings}
use Rattle.tus_steps.specs.Asked.{CanBeAsked, asked_in, change_in}
use Rattle.tus_steps.specs.declared.asked.Asked.{Asked}
use Rattle.tus_steps.specs.declared.requested_change.ChangeOf.{ChangeOf}
use Rattle.tus_steps.specs.declared.reply.Reply.{Reply}
use Rattle.tus_steps.specs.declared.reply.Reply.TheVariants.{Deleted}
use Rattle.tus_steps.specs.Reply.{append_reply, creation_reply, refusing}
use Rattle.tus_steps.specs.Request.{Request}
use Rattle.tus_steps.specs.Step.{IsStep}

-- the change that a request asks for
abbrev pub change_found : Settings → Request → Option ChangeOf
change_found s r = change_in (asked_in s r)

-- the reply to what a change gave; no request asks for a sweep, or that something is put back
abbrev pub change_reply : Request → Option ℕ → Result Outcome Refused → Reply
change_reply r offset (Ok (Created created)) = creation_reply r offset (Ok created)
change_reply r offset (Ok (Appended appended)) = append_reply r (Ok appended)
change_reply r offset (Ok (Removed removed)) = Deleted
change_reply r offset (Ok (Swept swept)) = Deleted
change_reply r offset (Ok Restored) = Deleted
change_reply r offset (Err refused) = refusing r refused.refusal refused.expires

-- The change is the step of the request: with this reply to its answer, and this book after it. Where it is refused the
-- book stays, and so it does where memory lacks for it.
pub record IsStepOf (b : PlainBook) (r : Request) (now : ℕ) (asked : ChangeOf) : Type 0 where
  pub made : IsStep b r now (change_reply r asked.offset (change_answer b asked.change now)) (book_after_change b asked.change now)
  pub refused : (why : Refused) → change_answer b asked.change now ≡ Err why → book_after_change b asked.change now ≡ b
  pub lacks : MayLackFor b asked.change now → IsStep b r now (change_reply r asked.offset (change_lacking b asked.change now)) b

-- the step of a request on a book, by the change that was found: one without leaves the book
abbrev pub IsChangeStep : PlainBook → Request → ℕ → Option ChangeOf → Type 0
IsChangeStep b r now (Some asked) = IsStepOf b r now asked
IsChangeStep b r now None = (reply : Reply) (after : PlainBook) → IsStep b r now reply after → after ≡ b

-- What was found of a request is what it asks for under these settings. A change may be given to a book of them, and on
-- each lawful one it is the request's step at every moment; a request that asks for none leaves the book.
pub record IsFound (s : Settings) (r : Request) (asked : Asked) : Type 0 where
  pub is : asked ≡ asked_in s r
  pub ready : CanBeAsked (length s.tenants) asked
  pub step : (b : PlainBook) (now : ℕ) → IsLawful b → b.settings ≡ s → IsChangeStep b r now (change_in asked)
