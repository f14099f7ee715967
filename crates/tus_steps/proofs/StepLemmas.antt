-- The step of a request by that of its operation, and what is ready to be asked.
use Rattle.std.proofs.Common.{◌≡◌, ℕ, false, Option, Some, None, Ok, Err, IfOk, IfSome, refl, subst}
use Rattle.std.specs.Prelude.{ok_or}
use Rattle.upload_book.specs.Expiry.{finished_end}
use Rattle.upload_book.specs.Concat.{concat_answer, concat_refusal, part_after_concat}
use Rattle.upload_book.specs.Operation.{Operation}
use Rattle.upload_book.specs.declared.refusal.Refusal.{Refusal}
use Rattle.upload_book.specs.declared.settings.Numbers.{Numbers}
use Rattle.upload_book.specs.NewFinal.{NewFinal}
use Rattle.upload_book.specs.PlainBook.{PlainBook}
use Rattle.upload_book.specs.TenantBook.{TenantBook}
use Rattle.upload_book.proofs.Lawful.Outcomes.{unless-Err}
use Rattle.tus_steps.specs.Request.{Request}
use Rattle.tus_steps.specs.declared.reply.Reply.{Reply}
use Rattle.tus_steps.specs.Operation.{operation_of}
use Rattle.tus_steps.specs.Method.{is_options}
use Rattle.tus_steps.specs.Step.{IsOperationStep, IsStep}

-- what holds of something that is there holds of it as a result
pub IfOk-ok_or : {A E : Type 0} (found : Option A) (why : E) (P : A → Type 0) → IfSome found P → IfOk (ok_or found why) P
IfOk-ok_or (Some x) why P holds = holds
IfOk-ok_or None why P holds = tt

-- and of the one that was found
pub found-ok_or : {A E : Type 0} (found : Option A) (why : E) (P : A → Type 0) (x : A) → IfSome found P → ok_or found why ≡ Ok x → P x
found-ok_or (Some y) why P x holds is = let same : y ≡ x = cc in subst P same holds
found-ok_or None why P x holds is = absurd cc

-- a concatenation that is refused leaves the part as it was
pub part_after_concat-refused : (n : Numbers) (part : TenantBook) (tenant : ℕ) (new : NewFinal) (now : ℕ) (why : Refusal) → concat_answer tenant new now n part ≡ Err why → part_after_concat new now n part ≡ part
part_after_concat-refused n part tenant new now why is =
    let refused = unless-Err (concat_refusal n part new now) (record { name = record { tenant = tenant; id = part.next }; expires = finished_end n now }) why is in rw refused refl

-- the step of an operation is that of the request that asks for it
pub step-by : (b : PlainBook) (r : Request) (now : ℕ) (op : Operation) (told : Reply) (after : PlainBook) → is_options r.method ≡ false → operation_of b.settings r ≡ Ok op → IsOperationStep b r now op told after → IsStep b r now told after
step-by b r now op told after other asked step = rw (other, asked) step
