-- A HEAD among the requests: it is answered by what is told of its upload alone (tus 1.0.0, Core Protocol, HEAD).
use Rattle.std.specs.Prelude.{◌≡◌, ℕ, true, false, None, Ok, Err, ⊤}
use Rattle.upload_book.specs.Operation as operation
use Rattle.upload_book.specs.declared.refusal.Refusal.{Refusal}
use Rattle.upload_book.specs.Look.{look_answer}
use Rattle.upload_book.specs.PlainBook.{PlainBook, answer_of}
use Rattle.upload_book.specs.Settings.{Settings}
use Rattle.tus_steps.specs.declared.head.HeadOf.{HeadOf}
use Rattle.tus_steps.specs.declared.head.HeadOf.TheVariants.{NotHead, Refused, Of}
use Rattle.tus_steps.specs.Method.{is_head}
use Rattle.tus_steps.specs.Operation.{operation_of}
use Rattle.tus_steps.specs.Reply.{refusing, head_reply}
use Rattle.tus_steps.specs.Request.{Request}
use Rattle.tus_steps.specs.Step.{IsStep}

-- what a request is found to be: no HEAD; a HEAD that is refused before the book is asked, with this reply; or a HEAD
-- of the upload of this name
abbrev pub IsHeadOf : Settings → Request → HeadOf → Type 0
IsHeadOf s r NotHead = is_head r.method ≡ false
IsHeadOf s r (Refused reply) =
    (is_head r.method ≡ true) × (why : Refusal) × (operation_of s r ≡ Err why) × (reply ≡ refusing r why None)
IsHeadOf s r (Of name) = (is_head r.method ≡ true) × (operation_of s r ≡ Ok (operation.Look name))

-- The step of a HEAD on a book, by what it was found to be: it leaves the book, and its reply is the one that was
-- found, or that to what a look at the upload tells.
abbrev pub IsHeadStep : PlainBook → Request → ℕ → HeadOf → Type 0
IsHeadStep b r now NotHead = ⊤
IsHeadStep b r now (Refused reply) = IsStep b r now reply b
IsHeadStep b r now (Of name) = IsStep b r now (head_reply (answer_of b name.tenant (look_answer name.id now))) b
