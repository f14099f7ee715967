-- A change is the step of the request that asks for it.
use Rattle.std.proofs.Common.{◌≡◌, ℕ, false, length, Option, Some, None, Result, Ok, Err, refl, inl, inr, ap, ◌∙◌, subst}
use Rattle.upload_book.specs.Append.{append_answer, append_lacking, part_after_append}
use Rattle.upload_book.specs.Change.{appended_in, gone_removed, outcome_in}
use Rattle.upload_book.specs.Chunk.{Chunk}
use Rattle.upload_book.specs.Concat.{concat_answer, part_after_concat}
use Rattle.upload_book.specs.Create.{create_answer, part_after_create}
use Rattle.upload_book.specs.declared.append.Appended.{Appended}
use Rattle.upload_book.specs.declared.append.Refused.{Refused}
use Rattle.upload_book.specs.declared.board_line.HeadChange.{HeadChange}
use Rattle.upload_book.specs.declared.change.Outcome.{Outcome}
use Rattle.upload_book.specs.declared.change.Outcome.TheVariants as outcome
use Rattle.upload_book.specs.declared.create.Created.{Created}
use Rattle.upload_book.specs.declared.head_row.Name.{Name}
use Rattle.upload_book.specs.Operation.{Operation}
use Rattle.upload_book.specs.Operation as operation
use Rattle.upload_book.specs.declared.refusal.Refusal.{Refusal}
use Rattle.upload_book.specs.declared.terminate.Removed.{Removed}
use Rattle.upload_book.specs.FirstChunk.{FirstChunk, no_chunk}
use Rattle.upload_book.specs.Lawful.{IsLawful}
use Rattle.upload_book.specs.NewFinal.{NewFinal}
use Rattle.upload_book.specs.NewUpload.{NewUpload}
use Rattle.upload_book.specs.PlainBook.{PlainBook, answer_of, book_after, tenant_book}
use Rattle.upload_book.specs.Terminate.{terminate_answer}
use Rattle.upload_book.proofs.Lawful.AppendLemmas.{part_after_append-refused}
use Rattle.upload_book.proofs.Steps.BookLemmas.{book_after-stays}
use Rattle.upload_book.proofs.Steps.CreateSteps.{empty-lacks, same_after, same_answer}
use Rattle.upload_book.proofs.Heads.HeadParts.{IsFollowed}
use Rattle.upload_book.proofs.Heads.HeadsFewer.{heads-terminate}
use Rattle.upload_book.proofs.Lawful.Outcomes.{part_after_create-refused}
use Rattle.tus_steps.specs.Asked.{asked_for, change_in}
use Rattle.tus_steps.specs.Changing.{IsChangeStep, change_reply}
use Rattle.tus_steps.specs.declared.reply.Reply.{Reply}
use Rattle.tus_steps.specs.Method.{is_options}
use Rattle.tus_steps.specs.Operation.{operation_of}
use Rattle.tus_steps.specs.Reply.{append_reply, creation_reply, deletion_reply}
use Rattle.tus_steps.specs.Request.{Request}
use Rattle.tus_steps.specs.Step.{IsOperationStep, IsStep}
use Rattle.tus_steps.proofs.StepLemmas.{part_after_concat-refused, step-by}

-- the reply to a creation's answer is that to what it gives,
reply-created : (r : Request) (offset : Option ℕ) (answer : Result Created Refusal) → change_reply r offset (outcome_in outcome.Created answer) ≡ creation_reply r offset answer
reply-created r offset (Ok created) = refl
reply-created r offset (Err why) = refl

-- so to a PATCH's,
reply-appended : (r : Request) (answer : Result Appended Refused) → change_reply r None (appended_in answer) ≡ append_reply r answer
reply-appended r (Ok appended) = refl
reply-appended r (Err why) = refl

-- and to a DELETE's
reply-removed : (r : Request) (answer : Result Removed Refusal) → change_reply r None (outcome_in outcome.Removed answer) ≡ deletion_reply r answer
reply-removed r (Ok removed) = refl
reply-removed r (Err why) = refl

-- a change that is refused is so by the call's answer
refused-by : {A : Type 0} (given : A → Outcome) (answer : Result A Refusal) (why : Refused) → outcome_in given answer ≡ Err why → (refusal : Refusal) × (answer ≡ Err refusal)
refused-by given (Ok x) why is = absurd cc
refused-by given (Err refusal) why is = (refusal, refl)

refused-patch : (answer : Result Appended Refused) (why : Refused) → appended_in answer ≡ Err why → answer ≡ Err why
refused-patch (Ok x) why is = absurd cc
refused-patch (Err refused) why is = ap Err (told is)
  where
    told : (let left : Result Outcome Refused = Err refused in let right : Result Outcome Refused = Err why in left ≡ right) → refused ≡ why
    told is = cc

-- so a creation leaves the book,
create-refused : (b : PlainBook) (t : ℕ) (new : NewUpload) (first : FirstChunk) (now : ℕ) (why : Refusal) → answer_of b t (create_answer t new first now b.charged) ≡ Err why → book_after b t (part_after_create new first now b.charged) ≡ b
create-refused b t new first now why is =
    book_after-stays b t (part_after_create new first now b.charged) (part_after_create-refused t b.settings.numbers (tenant_book b t) new first now b.charged why is)

-- a part without a line stays
stays-unfollowed : (b after : PlainBook) (head : Option HeadChange) → IsFollowed b after head → head ≡ None → after ≡ b
stays-unfollowed b after head followed none = (subst (IsFollowed b after) none followed).1

module _ (b : PlainBook) (r : Request) (now : ℕ) (lawful : IsLawful b) (other : is_options r.method ≡ false) where
  -- the step of a creation that carries nothing
  create-step : (t : ℕ) (new : NewUpload) → operation_of b.settings r ≡ Ok (operation.Create t new) → IsChangeStep b r now (change_in (asked_for (operation.Create t new)))
  create-step t new asked =
      let answer : Result Created Refusal = answer_of b t (create_answer t new no_chunk now b.charged) in
      record {
        made = step-by b r now (operation.Create t new) _ _ other asked (inl (
          reply-created r None answer ∙ ap (creation_reply r None) (same_answer b t new now lawful),
          same_after b t new now lawful,
        ));
        refused = λ why is. let by = refused-by outcome.Created answer why is in create-refused b t new no_chunk now by.0 by.1;
        lacks = λ lacks. step-by b r now (operation.Create t new) _ b other asked (inr (empty-lacks b t new now lawful lacks, refl, refl));
      }

  create_with-step : (t : ℕ) (new : NewUpload) (first : FirstChunk) → operation_of b.settings r ≡ Ok (operation.CreateWith t new first) → IsChangeStep b r now (change_in (asked_for (operation.CreateWith t new first)))
  create_with-step t new first asked =
      let answer : Result Created Refusal = answer_of b t (create_answer t new first now b.charged) in
      record {
        made = step-by b r now (operation.CreateWith t new first) _ _ other asked (inl (reply-created r (Some (length first.bytes)) answer, refl));
        refused = λ why is. let by = refused-by outcome.Created answer why is in create-refused b t new first now by.0 by.1;
        lacks = λ lacks. step-by b r now (operation.CreateWith t new first) _ b other asked (inr (lacks, refl, refl));
      }

  concat-step : (t : ℕ) (new : NewFinal) → operation_of b.settings r ≡ Ok (operation.Concat t new) → IsChangeStep b r now (change_in (asked_for (operation.Concat t new)))
  concat-step t new asked =
      let answer : Result Created Refusal = answer_of b t (concat_answer t new now) in
      record {
        made = step-by b r now (operation.Concat t new) _ _ other asked (inl (reply-created r None answer, refl));
        refused = λ why is. let by = refused-by outcome.Created answer why is in book_after-stays b t (part_after_concat new now) (part_after_concat-refused b.settings.numbers (tenant_book b t) t new now by.0 by.1);
        lacks = λ lacks. step-by b r now (operation.Concat t new) _ b other asked (inr (lacks, refl, refl));
      }

  append-step : (name : Name) (chunk : Chunk) → operation_of b.settings r ≡ Ok (operation.Append name chunk) → IsChangeStep b r now (change_in (asked_for (operation.Append name chunk)))
  append-step name chunk asked =
      let answer : Result Appended Refused = answer_of b name.tenant (append_answer name.id chunk now b.charged) in
      record {
        made = step-by b r now (operation.Append name chunk) _ _ other asked (inl (reply-appended r answer, refl));
        refused = λ why is. book_after-stays b name.tenant (part_after_append name.id chunk now b.charged) (part_after_append-refused name.id chunk now b.charged b.settings.numbers (tenant_book b name.tenant) why (refused-patch answer why is));
        lacks = λ lacks. step-by b r now (operation.Append name chunk) _ b other asked (inr (lacks, reply-appended r (answer_of b name.tenant (append_lacking name.id now)), refl));
      }

  terminate-step : (name : Name) → operation_of b.settings r ≡ Ok (operation.Terminate name) → IsChangeStep b r now (change_in (asked_for (operation.Terminate name)))
  terminate-step name asked =
      let answer : Result Removed Refusal = answer_of b name.tenant (terminate_answer name.id now) in
      record {
        made = step-by b r now (operation.Terminate name) _ _ other asked (inl (reply-removed r answer, refl));
        refused = λ why is. stays-unfollowed b _ _ (heads-terminate b name now lawful) (ap (gone_removed name) (refused-by outcome.Removed answer why is).1);
        lacks = λ lacks. absurd lacks;
      }

  -- what asks for no change leaves the book
  unasked : (op : Operation) (told : Reply) (after : PlainBook) → operation_of b.settings r ≡ Ok op → IsStep b r now told after → IsOperationStep b r now op told after
  unasked op told after asked step = rw (other, asked) at step

  -- the change of a request is its step
  pub change-step : (op : Operation) → operation_of b.settings r ≡ Ok op → IsChangeStep b r now (change_in (asked_for op))
  change-step (operation.Create t new) asked = create-step t new asked
  change-step (operation.CreateWith t new first) asked = create_with-step t new first asked
  change-step (operation.Concat t new) asked = concat-step t new asked
  change-step (operation.Look name) asked = λ told after step. elim (unasked (operation.Look name) told after asked step) [ inl made ↦ made.1 | inr lacks ↦ lacks.2 ]
  change-step (operation.Content name) asked = λ told after step. elim (unasked (operation.Content name) told after asked step) [ inl made ↦ made.1 | inr lacks ↦ lacks.2 ]
  change-step (operation.Append name chunk) asked = append-step name chunk asked
  change-step (operation.Terminate name) asked = terminate-step name asked
