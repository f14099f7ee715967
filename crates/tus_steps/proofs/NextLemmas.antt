-- The id that a tenant's next upload gets, as the replies tell it.
use Rattle.std.proofs.Common.{◌≡◌, ℕ, ◌<◌, true, List, length, Option, Some, None, Result, Ok, Err, inl, inr, refl, sym, ap, ◌∙◌}
use Rattle.std.specs.Option.{option_map, option_map_or}
use Rattle.std.proofs.lemmas.Bool.{cases_Bool}
use Rattle.upload_book.specs.Account.{account_in}
use Rattle.upload_book.specs.Append.{appended, told, with_appended}
use Rattle.upload_book.specs.Concat.{concat_answer, concat_refusal, part_after_concat}
use Rattle.upload_book.specs.Create.{create_answer, creation_refusal, part_after_create}
use Rattle.upload_book.specs.declared.append.Refused.{Refused}
use Rattle.upload_book.specs.declared.head_row.HeadRow.{HeadRow}
use Rattle.upload_book.specs.Operation.{Operation}
use Rattle.upload_book.specs.Operation as operation
use Rattle.upload_book.specs.declared.refusal.Refusal.{Refusal}
use Rattle.upload_book.specs.declared.settings.Numbers.{Numbers}
use Rattle.upload_book.specs.Content.{content_answer}
use Rattle.upload_book.specs.FirstChunk.{FirstChunk, no_chunk}
use Rattle.upload_book.specs.Look.{look_answer}
use Rattle.upload_book.specs.NewFinal.{NewFinal}
use Rattle.upload_book.specs.NewUpload.{NewUpload}
use Rattle.upload_book.specs.PlainBook.{PlainBook, opening_book, tenant_book}
use Rattle.upload_book.specs.Settings.{Settings, tenant_place}
use Rattle.upload_book.specs.Sweep.{book_after_sweep, part_after_sweep}
use Rattle.upload_book.specs.TenantBook.{TenantBook, opening_part, visible_upload}
use Rattle.upload_book.specs.Terminate.{part_after_terminate, terminate_answer}
use Rattle.upload_book.specs.Upload.{Upload}
use Rattle.tus_steps.specs.declared.range.Extent.{Extent}
use Rattle.tus_steps.specs.declared.reply.Reply.{Reply}
use Rattle.tus_steps.specs.History.{is_of, next_after, next_of, part_of}
use Rattle.tus_steps.specs.Isolation.{HasEachPart, quota_of}
use Rattle.tus_steps.specs.Method.{is_options}
use Rattle.tus_steps.specs.Operation.{operation_of}
use Rattle.tus_steps.specs.Reply.{append_reply, content_reply, creation_reply, deletion_reply, extent_reply, head_reply, metadata_of}
use Rattle.tus_steps.specs.Range.{extent_of}
use Rattle.tus_steps.specs.Request.{Request}
use Rattle.tus_steps.specs.Route.{tenant_name}
use Rattle.tus_steps.specs.Step.{IsOperationStep, IsStep, IsStepBy}
use Rattle.tus_steps.proofs.ApartLemmas.{asks-for, moved, moved_to}
use Rattle.tus_steps.proofs.OwnLemmas.{Changes, changes-none, changes-with, is_of-named, part_on, refused-none, reply_on}
use Rattle.tus_steps.proofs.PlaceLemmas.{part_of-swept, place-within}

created-next : (t : ℕ) (n : Numbers) (part : TenantBook) (c : ℕ) (r : Request) (offset : Option ℕ) (now : ℕ) (new : NewUpload) (first : FirstChunk) (why : Option Refusal) → creation_refusal n (account_in n part c) part new first ≡ why
    → (part_after_create new first now c n part).next ≡ next_after part.next (creation_reply r offset (create_answer t new first now c n part))
created-next t n part c r offset now new first None is = rw is refl
created-next t n part c r offset now new first (Some why) is = rw is refl

joined-next : (t : ℕ) (n : Numbers) (part : TenantBook) (r : Request) (now : ℕ) (new : NewFinal) (why : Option Refusal) → concat_refusal n part new now ≡ why → (part_after_concat new now n part).next ≡ next_after part.next (creation_reply r None (concat_answer t new now n part))
joined-next t n part r now new None is = rw is refl
joined-next t n part r now new (Some why) is = rw is refl

shown-next : (next : ℕ) (row : Result HeadRow Refusal) → next ≡ next_after next (head_reply row)
shown-next next (Ok row) = refl
shown-next next (Err why) = refl

given-next : (next : ℕ) (r : Request) (row : Result HeadRow Refusal) (bytes : Result (List ℕ) Refusal) → next ≡ next_after next (content_reply r row bytes)
given-next next r row (Ok bytes) = by (extent_of r.range (length bytes)) where
  by : (extent : Option Extent) → next ≡ next_after next (extent_reply extent (metadata_of row) bytes)
  by None = refl
  by (Some extent) = refl
given-next next r row (Err why) = refl

appended-next : (part : TenantBook) (id : ℕ) (r : Request) (result : Result Upload Refused) → (with_appended part id result).next ≡ next_after part.next (append_reply r (told result))
appended-next part id r (Ok u) = refl
appended-next part id r (Err why) = refl

ended-next : (n : Numbers) (part : TenantBook) (id : ℕ) (r : Request) (now : ℕ) (seen : Result Upload Refusal) → visible_upload part id now ≡ seen → (part_after_terminate id now n part).next ≡ next_after part.next (deletion_reply r (terminate_answer id now n part))
ended-next n part id r now (Ok u) is = rw is refl
ended-next n part id r now (Err why) is = rw is refl

-- the next id after an operation
next-on : (t : ℕ) (n : Numbers) (part : TenantBook) (c : ℕ) (r : Request) (now : ℕ) (op : Operation) → (part_on n part c now op).next ≡ next_after part.next (reply_on t n part c r now op)
next-on t n part c r now (operation.Create u new) =
    created-next t n part 0 r None now new no_chunk (creation_refusal n (account_in n part 0) part new no_chunk) refl
next-on t n part c r now (operation.CreateWith u new first) =
    created-next t n part c r (Some (length first.bytes)) now new first (creation_refusal n (account_in n part c) part new first) refl
next-on t n part c r now (operation.Concat u new) = joined-next t n part r now new (concat_refusal n part new now) refl
next-on t n part c r now (operation.Look name) = shown-next part.next (look_answer name.id now n part)
next-on t n part c r now (operation.Content name) = given-next part.next r (look_answer name.id now n part) (content_answer name.id now n part)
next-on t n part c r now (operation.Append name chunk) = appended-next part name.id r (appended name.id chunk now c n part)
next-on t n part c r now (operation.Terminate name) = ended-next n part name.id r now (visible_upload part name.id now) refl

-- the settings stay, and the reply tells which id is next
pub record Tells (tenant : List ℕ) (b : PlainBook) (reply : Reply) (after : PlainBook) : Type 0 where
  pub settings : after.settings ≡ b.settings
  pub next : next_of after tenant ≡ next_after (next_of b tenant) reply

tells-same : (tenant : List ℕ) (b : PlainBook) (reply : Reply) (after : PlainBook) → after ≡ b → next_of b tenant ≡ next_after (next_of b tenant) reply → Tells tenant b reply after
tells-same tenant b reply after is next = rw is (record { settings = refl; next = next })

-- after a step that changed the tenant's part
tells-changed : (tenant : List ℕ) (b : PlainBook) (t : ℕ) (reply : Reply) (after : PlainBook) (part : TenantBook) → tenant_place b.settings tenant ≡ Some t → Changes b after t part → part.next ≡ next_after (tenant_book b t).next reply → Tells tenant b reply after
tells-changed tenant b t reply after part is changes next = record {
  settings = changes.settings;
  next = rw (changes.settings, is) (ap (λ (part : TenantBook). part.next) changes.own ∙ next);
}

tells-made : (tenant : List ℕ) (b : PlainBook) (t : ℕ) (r : Request) (now : ℕ) (op : Operation) (reply : Reply) (after : PlainBook) → tenant_place b.settings tenant ≡ Some t → reply ≡ reply_on t b.settings.numbers (tenant_book b t) b.charged r now op
    → Changes b after t (part_on b.settings.numbers (tenant_book b t) b.charged now op) → Tells tenant b reply after
tells-made tenant b t r now op reply after is told changes =
    tells-changed tenant b t reply after _ is changes
    (next-on t b.settings.numbers (tenant_book b t) b.charged r now op ∙ ap (next_after (tenant_book b t).next) (sym told))

tells-lacks : (tenant : List ℕ) (b : PlainBook) (reply lacking : Reply) (after : PlainBook) → reply ≡ lacking → after ≡ b → next_of b tenant ≡ next_after (next_of b tenant) lacking → Tells tenant b reply after
tells-lacks tenant b reply lacking after told is next =
    tells-same tenant b reply after is (next ∙ ap (next_after (next_of b tenant)) (sym told))

tells-op : (tenant : List ℕ) (b : PlainBook) (t : ℕ) (r : Request) (now : ℕ) (op : Operation) (reply : Reply) (after : PlainBook) → t < length b.tenants → tenant_place b.settings tenant ≡ Some t → IsOperationStep b r now (moved t op) reply after → Tells tenant b reply after
tells-op tenant b t r now (operation.Create u new) reply after within is (inl step) =
    tells-made tenant b t r now (operation.Create u new) reply after is step.0 (changes-with b after t _ within step.1)
tells-op tenant b t r now (operation.CreateWith u new first) reply after within is (inl step) =
    tells-made tenant b t r now (operation.CreateWith u new first) reply after is step.0 (changes-with b after t _ within step.1)
tells-op tenant b t r now (operation.Concat u new) reply after within is (inl step) =
    tells-made tenant b t r now (operation.Concat u new) reply after is step.0 (changes-with b after t _ within step.1)
tells-op tenant b t r now (operation.Look name) reply after within is (inl step) =
    tells-made tenant b t r now (operation.Look name) reply after is step.0 (changes-none b after t step.1)
tells-op tenant b t r now (operation.Content name) reply after within is (inl step) =
    tells-made tenant b t r now (operation.Content name) reply after is step.0 (changes-none b after t step.1)
tells-op tenant b t r now (operation.Append name chunk) reply after within is (inl step) =
    tells-made tenant b t r now (operation.Append name chunk) reply after is step.0 (changes-with b after t _ within step.1)
tells-op tenant b t r now (operation.Terminate name) reply after within is (inl step) =
    tells-made tenant b t r now (operation.Terminate name) reply after is step.0 (changes-with b after t _ within step.1)
tells-op tenant b t r now (operation.Create u new) reply after within is (inr step) = tells-lacks tenant b reply _ after step.1 step.2 refl
tells-op tenant b t r now (operation.CreateWith u new first) reply after within is (inr step) = tells-lacks tenant b reply _ after step.1 step.2 refl
tells-op tenant b t r now (operation.Concat u new) reply after within is (inr step) = tells-lacks tenant b reply _ after step.1 step.2 refl
tells-op tenant b t r now (operation.Look name) reply after within is (inr step) = absurd step.0
tells-op tenant b t r now (operation.Content name) reply after within is (inr step) = tells-lacks tenant b reply _ after step.1 step.2 refl
tells-op tenant b t r now (operation.Append name chunk) reply after within is (inr step) = tells-lacks tenant b reply _ after step.1 step.2 refl
tells-op tenant b t r now (operation.Terminate name) reply after within is (inr step) = absurd step.0

tells-refused : (tenant : List ℕ) (b : PlainBook) (r : Request) (now : ℕ) (reply : Reply) (after : PlainBook) (why : Refusal) → operation_of b.settings r ≡ Err why → IsStepBy b r now (operation_of b.settings r) reply after → Tells tenant b reply after
tells-refused tenant b r now reply after why is step = let at = rw is at step in tells-lacks tenant b reply _ after at.0 at.1 refl

tells-asked : (tenant : List ℕ) (b : PlainBook) (t : ℕ) (r : Request) (now : ℕ) (asked : Result Operation Refusal) (reply : Reply) (after : PlainBook) → HasEachPart b → tenant_place b.settings tenant ≡ Some t → operation_of b.settings r ≡ moved_to t asked → IsStepBy b r now (operation_of b.settings r) reply after → Tells tenant b reply after
tells-asked tenant b t r now (Err why) reply after each is asks step = tells-refused tenant b r now reply after why asks step
tells-asked tenant b t r now (Ok op) reply after each is asks step =
    tells-op tenant b t r now op reply after (place-within b tenant t each is) is (rw asks at step)

tells-by : (tenant : List ℕ) (b : PlainBook) (r : Request) (now : ℕ) (reply : Reply) (after : PlainBook) (place : Option ℕ) → tenant_place b.settings tenant ≡ place → HasEachPart b → tenant_name r.path ≡ Some tenant → IsStepBy b r now (operation_of b.settings r) reply after → Tells tenant b reply after
tells-by tenant b r now reply after None is each named step =
    let refused = refused-none r tenant named in
    tells-refused tenant b r now reply after refused.0 (refused.1 b.settings is) step
tells-by tenant b r now reply after (Some t) is each named step =
    let asked = asks-for r tenant named in
    tells-asked tenant b t r now asked.of reply after each is (asked.each b.settings t is) step

-- a request of the tenant
pub own-tells : (tenant : List ℕ) (b : PlainBook) (r : Request) (now : ℕ) (reply : Reply) (after : PlainBook) → HasEachPart b → is_of tenant r ≡ true → IsStep b r now reply after → Tells tenant b reply after
own-tells tenant b r now reply after each own step = elim (cases_Bool (is_options r.method)) [
  | inl options ↦ let at = rw options at step in tells-lacks tenant b reply _ after at.0 at.1 refl
  | inr other ↦ tells-by tenant b r now reply after (tenant_place b.settings tenant) refl each (is_of-named tenant (tenant_name r.path) own) (rw other at step)
]

swept-part : (now : ℕ) (part : Option TenantBook) → option_map_or (λ (part : TenantBook). part.next) (option_map (part_after_sweep now) part) 1 ≡ option_map_or (λ (part : TenantBook). part.next) part 1
swept-part now None = refl
swept-part now (Some part) = refl

-- a sweep leaves the next id
pub swept-next : (tenant : List ℕ) (b : PlainBook) (now : ℕ) → next_of (book_after_sweep b now) tenant ≡ next_of b tenant
swept-next tenant b now =
    ap (λ (part : Option TenantBook). option_map_or (λ (part : TenantBook). part.next) part 1) (part_of-swept tenant b now)
    ∙ swept-part now (part_of b tenant)

opened-part : (quota : Option ℕ) → option_map_or (λ (part : TenantBook). part.next) (option_map opening_part quota) 1 ≡ 1
opened-part None = refl
opened-part (Some quota) = refl

-- the first upload gets the id 1
pub opened-next : (s : Settings) (tenant : List ℕ) → part_of (opening_book s) tenant ≡ option_map opening_part (quota_of s tenant) → next_of (opening_book s) tenant ≡ 1
opened-next s tenant is =
    ap (λ (part : Option TenantBook). option_map_or (λ (part : TenantBook). part.next) part 1) is ∙ opened-part (quota_of s tenant)
