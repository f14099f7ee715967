-- What was found of a request is what it asks for, and its step.
use Rattle.std.proofs.Common.{◌≡◌, ◌≢◌, ◌<◌, ◌+◌, ◌-◌, ℕ, [], ◌∷◌, arith, true, false, List, length, take, Option, None, Some, Result, Ok, Err, IfOk, IfErr, OnOk, OnErr, inl, inr, refl, sym, ap, ap₂, ◌∙◌, subst}
use Rattle.std.proofs.lemmas.Bool.{cases_Bool}
use Rattle.std.proofs.lemmas.List.{drop_all, take_all}
use Rattle.std.specs.Result.{IsOkAnd}
use Rattle.upload_book.specs.Change.{MayLackFor, book_after_change, change_answer, change_lacking}
use Rattle.upload_book.specs.Content.{LacksRoom, bytes_at, bytes_of, content_answer, len_answer, span_answer, with_content}
use Rattle.upload_book.specs.declared.content.ByteSpan.{ByteSpan}
use Rattle.upload_book.specs.declared.append.Refused.{Refused}
use Rattle.upload_book.specs.declared.change.Change.{Change}
use Rattle.upload_book.specs.declared.change.Change.TheVariants as change
use Rattle.upload_book.specs.declared.change.Outcome.{Outcome}
use Rattle.upload_book.specs.declared.change.Outcome.TheVariants as outcome
use Rattle.upload_book.specs.declared.head_row.HeadRow.{HeadRow}
use Rattle.upload_book.specs.declared.head_row.Name.{Name}
use Rattle.upload_book.specs.Operation.{Operation}
use Rattle.upload_book.specs.Operation as operation
use Rattle.upload_book.specs.declared.refusal.Refusal.{Refusal}
use Rattle.upload_book.specs.declared.refusal.Refusal.TheVariants as refusal
use Rattle.upload_book.specs.Look.{look_answer, row_of}
use Rattle.upload_book.specs.PlainBook.{PlainBook, answer_of}
use Rattle.upload_book.specs.Refusal.{IsAnswer}
use Rattle.upload_book.specs.Settings.{Settings}
use Rattle.upload_book.specs.TenantBook.{visible_upload}
use Rattle.upload_book.specs.Upload.{Upload}
use Rattle.upload_book.proofs.Restoring.PieceSteps.{piece-settings}
use Rattle.tus_steps.specs.Asked.{CanBeAsked, asked_by, asked_for, asked_in, asked_or, change_in}
use Rattle.tus_steps.specs.Changing.{IsFound, IsStepOf, change_reply}
use Rattle.tus_steps.specs.declared.asked.Asked.{Asked}
use Rattle.tus_steps.specs.declared.asked.Asked.TheVariants as asked
use Rattle.tus_steps.specs.declared.range.Extent.{Extent}
use Rattle.tus_steps.specs.declared.range.Extent.TheVariants as extent
use Rattle.tus_steps.specs.declared.reply.Reply.{Reply}
use Rattle.tus_steps.specs.declared.reply.Reply.TheVariants as reply
use Rattle.tus_steps.specs.declared.requested_change.ChangeOf.{ChangeOf}
use Rattle.tus_steps.specs.Method.{is_options}
use Rattle.tus_steps.specs.Operation.{operation_of}
use Rattle.tus_steps.specs.Range.{bytes_in, extent_of}
use Rattle.tus_steps.specs.Reply.{IsRefusing, bytes_told, content_reply, extent_reply, given_reply, head_reply, metadata_of, refusing}
use Rattle.tus_steps.specs.Request.{Request}
use Rattle.tus_steps.specs.Step.{IsContentReply, IsStep, operation_reply}
use Rattle.tus_steps.proofs.ChangeLemmas.{change-step}
use Rattle.tus_steps.proofs.StepLemmas.{step-by}

-- what was found of a request: OPTIONS,
pub found-options : (s : Settings) (r : Request) → is_options r.method ≡ true → IsFound s r asked.Options
found-options s r options = record {
  is = rw options refl;
  ready = tt;
  step = λ b now lawful same told after step. (rw options at step).1;
}

-- one that is refused before the book is asked,
pub found-refused : (s : Settings) (r : Request) (why : Refusal) → is_options r.method ≡ false → operation_of s r ≡ Err why → IsFound s r (asked.Refused why)
found-refused s r why other asks = record {
  is = rw (other, asks) refl;
  ready = tt;
  step = λ b now lawful same told after step. (rw (other, ap (λ (s : Settings). operation_of s r) same ∙ asks) at step).1;
}

-- and one for an operation
found-for : (s : Settings) (r : Request) (op : Operation) → is_options r.method ≡ false → operation_of s r ≡ Ok op → CanBeAsked (length s.tenants) (asked_for op) → IsFound s r (asked_for op)
found-for s r op other asks ready = record {
  is = rw (other, asks) refl;
  ready = ready;
  step = λ b now lawful same. change-step b r now lawful other op (ap (λ (s : Settings). operation_of s r) same ∙ asks);
}

pub found-asked : (s : Settings) (r : Request) (found : Result Operation Refusal) (asks : Asked) → is_options r.method ≡ false → operation_of s r ≡ found → asked_or found ≡ Ok asks → CanBeAsked (length s.tenants) asks → IsFound s r asks
found-asked s r (Ok op) asks other of is ready =
    let same : asked_for op ≡ asks = cc in
    subst (IsFound s r) same (found-for s r op other of (subst (CanBeAsked (length s.tenants)) (sym same) ready))
found-asked s r (Err why) asks other of is ready = absurd cc

-- what is no change has none
pub asks-none : (asks : Asked) → ((change : ChangeOf) → asks ≡ asked.Change change → ⊥) → change_in asks ≡ None
asks-none asked.Options other = refl
asks-none (asked.Refused why) other = refl
asks-none (asked.Look name) other = refl
asks-none (asked.Content name) other = refl
asks-none (asked.Change change) other = absurd (other change refl)

-- What a request asks for, by its operation: one for a change is none of the others.
abbrev pub IsAsked : Settings → Request → Asked → Type 0
IsAsked s r asked.Options = is_options r.method ≡ true
IsAsked s r (asked.Refused why) = (is_options r.method ≡ false) × (operation_of s r ≡ Err why)
IsAsked s r (asked.Look name) = (is_options r.method ≡ false) × (operation_of s r ≡ Ok (operation.Look name))
IsAsked s r (asked.Content name) = (is_options r.method ≡ false) × (operation_of s r ≡ Ok (operation.Content name))
IsAsked s r (asked.Change change) = is_options r.method ≡ false

asks-by : (s : Settings) (r : Request) (asks : Result Operation Refusal) → is_options r.method ≡ false → operation_of s r ≡ asks → IsAsked s r (asked_by asks)
asks-by s r (Err why) other is = (other, is)
asks-by s r (Ok (operation.Create tenant new)) other is = other
asks-by s r (Ok (operation.CreateWith tenant new first)) other is = other
asks-by s r (Ok (operation.Concat tenant new)) other is = other
asks-by s r (Ok (operation.Look name)) other is = (other, is)
asks-by s r (Ok (operation.Content name)) other is = (other, is)
asks-by s r (Ok (operation.Append name chunk)) other is = other
asks-by s r (Ok (operation.Terminate name)) other is = other

pub asks-in : (s : Settings) (r : Request) (asks : Asked) → asks ≡ asked_in s r → IsAsked s r asks
asks-in s r asks is = elim (cases_Bool (is_options r.method)) [
  | inl options ↦
      let found : asked_in s r ≡ asked.Options = rw options refl in
      subst (IsAsked s r) (sym (is ∙ found)) options
  | inr other ↦
      let found : asked_in s r ≡ asked_by (operation_of s r) = rw other refl in
      subst (IsAsked s r) (sym (is ∙ found)) (asks-by s r (operation_of s r) other refl)
]

-- a reply that gives more bytes than there is room for gives some,
gives-some : (room : ℕ) (bytes : List ℕ) → room < length bytes → bytes ≢ []
gives-some room [] lacks = absurd (omega (arith, lacks))
gives-some room (byte ∷ bytes) lacks = λ empty. absurd (cc)

-- and is one to a GET that gives some as a whole
whole-some : (r : Request) (row : Result HeadRow Refusal) (answer : Result (List ℕ) Refusal) → bytes_told (content_reply r row answer) ≢ [] → IsOkAnd answer (λ bytes. bytes ≢ [])
whole-some r row (Err why) some = absurd (some refl)
whole-some r row (Ok []) some = absurd (some (none (extent_of r.range 0)))
  where
    none : (extent : Option Extent) → bytes_told (extent_reply extent (metadata_of row) []) ≡ []
    none None = refl
    none (Some extent.Plain) = refl
    none (Some extent.Whole) = refl
    none (Some (extent.Range first last len)) = ap (take ((last + 1) - first)) (drop_all first [] (omega arith)) ∙ take_all ((last + 1) - first) [] (omega arith)
whole-some r row (Ok (byte ∷ bytes)) some = λ empty. absurd (cc)

-- an upload that isn't seen gives no bytes
unseen-bytes : (seen : Result Upload Refusal) (why : Refusal) → row_of seen ≡ Err why → bytes_of seen ≡ Err why
unseen-bytes (Ok u) why is = absurd cc
unseen-bytes (Err other) why is = cc

-- what is told of how many bytes a GET gives is so of its bytes
pub content-refused : (answer : Result (List ℕ) Refusal) (why : Refusal) → with_content (λ bytes. length bytes) answer ≡ Err why → answer ≡ Err why
content-refused (Ok bytes) why is = absurd cc
content-refused (Err other) why is = cc

content-len : (answer : Result (List ℕ) Refusal) (len : ℕ) → with_content (λ bytes. length bytes) answer ≡ Ok len → (bytes : List ℕ) × (answer ≡ Ok bytes) × (length bytes ≡ len)
content-len (Ok bytes) len is = (bytes, refl, cc)
content-len (Err why) len is = absurd cc

module _ (b : PlainBook) (r : Request) (now : ℕ) where
  -- the steps of a request that asks for no change: OPTIONS,
  pub options-step : asked.Options ≡ asked_in b.settings r → IsStep b r now (reply.Options b.settings.numbers.max_size) b
  options-step is = let options = asks-in b.settings r asked.Options is in rw options (refl, refl)

  -- one that is refused,
  pub refused-step : (why : Refusal) → asked.Refused why ≡ asked_in b.settings r → IsStep b r now (refusing r why None) b
  refused-step why is =
      let asks = asks-in b.settings r (asked.Refused why) is in
      rw (asks.0, asks.1) (refl, refl)

  -- a HEAD,
  pub look-step : (name : Name) → asked.Look name ≡ asked_in b.settings r → IsStep b r now (head_reply (answer_of b name.tenant (look_answer name.id now))) b
  look-step name is =
      let asks = asks-in b.settings r (asked.Look name) is in
      step-by b r now (operation.Look name) _ b asks.0 asks.1 (inl (refl, refl))

  -- and a GET, whose bytes were given so much room
  pub content-step : (name : Name) (room : ℕ) (told : Reply) → asked.Content name ≡ asked_in b.settings r → IsContentReply b r now name room told → IsStep b r now told b
  content-step name room told is answer =
      let asks = asks-in b.settings r (asked.Content name) is in
      step-by b r now (operation.Content name) _ b asks.0 asks.1 (elim answer [
        | inl same ↦ inl (same, refl)
        | inr lacks ↦
            let some = gives-some room (bytes_told (operation_reply b r now (operation.Content name))) lacks.0 in
            inr ((whole-some r (answer_of b name.tenant (look_answer name.id now)) (answer_of b name.tenant (content_answer name.id now)) some, some), lacks.1, refl)
      ])

  -- the replies to a GET: one of an upload that isn't seen,
  pub reply-unseen : (name : Name) (room : ℕ) (why : Refusal) → answer_of b name.tenant (look_answer name.id now) ≡ Err why → IsContentReply b r now name room (refusing r why None)
  reply-unseen name room why unseen =
      inl (sym (ap (content_reply r (answer_of b name.tenant (look_answer name.id now))) (unseen-bytes (answer_of b name.tenant (λ n part. visible_upload part name.id now)) why unseen)))

  -- one that is refused for its bytes,
  pub reply-refused : (name : Name) (room : ℕ) (why : Refusal) → answer_of b name.tenant (len_answer name.id now) ≡ Err why → IsContentReply b r now name room (refusing r why None)
  reply-refused name room why refused =
      inl (sym (ap (content_reply r (answer_of b name.tenant (look_answer name.id now))) (content-refused (answer_of b name.tenant (content_answer name.id now)) why refused)))

  -- one that has none of the bytes,
  pub reply-none : (name : Name) (room len : ℕ) → answer_of b name.tenant (len_answer name.id now) ≡ Ok len → extent_of r.range len ≡ None → IsContentReply b r now name room (reply.Unsatisfiable len)
  reply-none name room len told none =
      let found = content-len (answer_of b name.tenant (content_answer name.id now)) len told in
      let row = answer_of b name.tenant (look_answer name.id now) in
      let bytes = found.0 in
      let same : content_reply r row (Ok bytes) ≡ reply.Unsatisfiable (length bytes) = ap (λ extent. extent_reply extent (metadata_of row) bytes) (ap (extent_of r.range) found.2 ∙ none) in
      inl (sym (ap (content_reply r row) found.1 ∙ same ∙ ap reply.Unsatisfiable found.2))

  -- and one that gives some of them, which were given so much room
  pub reply-given : (name : Name) (room len : ℕ) (extent : Extent) (span : ByteSpan) (row : HeadRow) (given : Result (List ℕ) Refusal) → answer_of b name.tenant (look_answer name.id now) ≡ Ok row → answer_of b name.tenant (len_answer name.id now) ≡ Ok len → extent_of r.range len ≡ Some extent
      → ((bytes : List ℕ) → length bytes ≡ len → bytes_at span bytes ≡ bytes_in extent bytes)
      → IsAnswer (answer_of b name.tenant (span_answer span name.id now)) (LacksRoom room (answer_of b name.tenant (span_answer span name.id now))) (Err refusal.Memory) given
      → IsContentReply b r now name room (given_reply r extent row.metadata given)
  reply-given name room len extent span row given seen told some same answer =
      let found = content-len (answer_of b name.tenant (content_answer name.id now)) len told in
      let bytes = found.0 in
      let whole : operation_reply b r now (operation.Content name) ≡ reply.Content (bytes_in extent bytes) extent row.metadata =
      ap₂ (content_reply r) seen found.1 ∙ ap (λ extent. extent_reply extent row.metadata bytes) (ap (extent_of r.range) found.2 ∙ some) in
      let part : answer_of b name.tenant (span_answer span name.id now) ≡ Ok (bytes_in extent bytes) = ap (with_content (bytes_at span)) found.1 ∙ ap Ok (same bytes found.2) in
      elim answer [
        | inl is ↦ inl (ap (given_reply r extent row.metadata) (is ∙ part) ∙ sym whole)
        | inr lacks ↦ inr (subst (λ (told : Reply). room < length (bytes_told told)) (sym whole) (subst (LacksRoom room) part lacks.0), ap (given_reply r extent row.metadata) lacks.1)
      ]

  -- a step, by other names of what was given and left
  replied : (offset : Option ℕ) (result answer : Result Outcome Refused) (after left : PlainBook) → result ≡ answer → after ≡ left → IsStep b r now (change_reply r offset answer) left → IsStep b r now (change_reply r offset result) after
  replied offset result answer after left same is step =
      subst (λ (book : PlainBook). IsStep b r now (change_reply r offset result) book) (sym is)
      (subst (λ (told : Result Outcome Refused). IsStep b r now (change_reply r offset told) left) (sym same) step)

  -- the step of one whose change was made or refused
  pub made-step : (asks : ChangeOf) (result : Result Outcome Refused) (after : PlainBook) → IsStepOf b r now asks → IfOk result (λ told. change_answer b asks.change now ≡ Ok told) → OnOk result (after ≡ book_after_change b asks.change now)
      → IfErr result (λ why. IsAnswer (change_answer b asks.change now) (MayLackFor b asks.change now) (change_lacking b asks.change now) (Err why)) → OnErr result (after ≡ b)
      → IsStep b r now (change_reply r asks.offset result) after
  made-step asks (Ok told) after steps answer made refused stays =
      replied asks.offset (Ok told) (change_answer b asks.change now) after (book_after_change b asks.change now) (sym answer) made steps.made
  made-step asks (Err why) after steps answer made (inl same) stays =
      replied asks.offset (Err why) (change_answer b asks.change now) after (book_after_change b asks.change now) same (stays ∙ sym (steps.refused why (sym same))) steps.made
  made-step asks (Err why) after steps answer made (inr lacks) stays =
      replied asks.offset (Err why) (change_lacking b asks.change now) after b lacks.1 stays (steps.lacks lacks.0)

-- a reply that refuses comes of an outcome that does
pub refused-stays : (r : Request) (offset : Option ℕ) (result : Result Outcome Refused) (told : Reply) (Stays : Type 0) → told ≡ change_reply r offset result → OnErr result Stays → IsRefusing told → Stays
refused-stays r offset (Ok (outcome.Created created)) told Stays is stays refuses = absurd (subst IsRefusing is refuses)
refused-stays r offset (Ok (outcome.Appended appended)) told Stays is stays refuses = absurd (subst IsRefusing is refuses)
refused-stays r offset (Ok (outcome.Removed removed)) told Stays is stays refuses = absurd (subst IsRefusing is refuses)
refused-stays r offset (Ok (outcome.Swept swept)) told Stays is stays refuses = absurd (subst IsRefusing is refuses)
refused-stays r offset (Ok outcome.Restored) told Stays is stays refuses = absurd (subst IsRefusing is refuses)
refused-stays r offset (Err why) told Stays is stays refuses = stays

-- a change leaves the settings
change-settings : (b : PlainBook) (made : Change) (now : ℕ) → (book_after_change b made now).settings ≡ b.settings
change-settings b (change.Create tenant new first) now = refl
change-settings b (change.Append name chunk) now = refl
change-settings b (change.Concat tenant new) now = refl
change-settings b (change.Terminate name) now = refl
change-settings b change.Sweep now = refl
change-settings b (change.Restore restored) now = piece-settings b restored

-- also where it is refused
pub made-settings : (b : PlainBook) (made : Change) (now : ℕ) (result : Result Outcome Refused) (after : PlainBook) → OnOk result (after ≡ book_after_change b made now) → OnErr result (after ≡ b) → after.settings ≡ b.settings
made-settings b made now (Ok told) after is stays = ap (λ (b : PlainBook). b.settings) is ∙ change-settings b made now
made-settings b made now (Err why) after is stays = ap (λ (b : PlainBook). b.settings) stays
