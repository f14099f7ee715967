use Rattle.std.proofs.Common.{◌≡◌, ◌<◌, ◌≤◌, ◌+◌, ℕ, Fits, w64, length, None, Option, Some, inl, inr, refl, ap, sym, ◌∙◌, subst, arith}
use Rattle.upload_book.specs.Book.{plain_of, IsBook, StoredBook}
use Rattle.upload_book.specs.contracts.book.Book.{the_view}
use Rattle.upload_book.specs.Create.{creation_refusal, first_end, TakesTexts}
use Rattle.upload_book.specs.declared.board_line.Account.{Account}
use Rattle.upload_book.specs.declared.ready.ReadyUpload.{ReadyUpload}
use Rattle.upload_book.specs.declared.refusal.Refusal.{Refusal}
use Rattle.upload_book.specs.declared.settings.Numbers.{Numbers}
use Rattle.upload_book.specs.FirstChunk.{FirstChunk, count_all_first}
use Rattle.upload_book.specs.inside.Texts.{IsTextsFor}
use Rattle.upload_book.specs.NewUpload.{NewUpload}
use Rattle.upload_book.specs.PlainBook.{tenant_book}
use Rattle.upload_book.specs.Ready.{IsReadyForUpload}
use Rattle.block_bodies.specs.Bodies.{HasRoom}
use Rattle.upload_book.specs.BlockStore.{part_at}
use Rattle.upload_book.proofs.Steps.BookSteps.{part-plain, stored_tenants-settings}
use Rattle.upload_book.proofs.Steps.CreateSteps.{IsCreation, all_create-blocks, all_create-fits, all_create-taken, create-lacks}
use Rattle.upload_book.proofs.Lawful.LawfulCreate.{HasLawfulTexts}
use Rattle.upload_book.proofs.Lawful.Outcomes.{create_answer-refused}
use Rattle.upload_book.proofs.Steps.PatchSteps.{account_at}
use Rattle.upload_book.proofs.book.Book.ready_for_upload.Goals as goal

-- what was read where a creation is tested
record IsRead (b w : StoredBook) (t place : ℕ) (numbers : Numbers) (account : Account) (new : NewUpload) (first : FirstChunk) (found : Option Refusal) : Type 0 where
  kept : IsBook b
  is : b ≡ w
  tenant : t < length w.settings.tenants
  texts : HasLawfulTexts new
  at : place ≡ t
  numbers_read : numbers ≡ b.settings.numbers
  account_read : account ≡ account_at w t
  found_is : found ≡ creation_refusal numbers account (part_at b.store place) new first

module _ {b w : StoredBook} {t place : ℕ} {numbers : Numbers} {account : Account} {new : NewUpload} {first : FirstChunk} {found : Option Refusal} (r : IsRead b w t place numbers account new first found) where
  -- the tenant has a stored part
  there : t < length b.store.stored_tenants
  there = omega (arith, r.tenant, stored_tenants-settings b r.kept, ap (λ (b : StoredBook). length b.settings.tenants) r.is)

  -- why the creation is refused, if it is
  told : (why : Option Refusal) → found ≡ why → creation_refusal b.settings.numbers (account_at b t) (tenant_book (plain_of b) t) new first ≡ why
  told why answer =
      ap (λ part. creation_refusal b.settings.numbers (account_at b t) part new first) (part-plain b t)
      ∙ ap (λ b'. creation_refusal b.settings.numbers (account_at b' t) (part_at b.store t) new first) r.is
      ∙ ap (λ a. creation_refusal b.settings.numbers a (part_at b.store t) new first) (sym r.account_read)
      ∙ ap (λ n. creation_refusal n account (part_at b.store t) new first) (sym r.numbers_read)
      ∙ ap (λ t. creation_refusal numbers account (part_at b.store t) new first) (sym r.at) ∙ sym r.found_is ∙ answer

  -- a creation that is not refused
  creation : found ≡ None → IsCreation b t new first
  creation none = record { kept = r.kept; within = there; texts = r.texts; none = told None none }

  -- the end of the upload
  ends : (now len : ℕ) (expires : Option ℕ) → len ≡ length first.bytes → expires ≡ first_end numbers new len now → expires ≡ first_end b.settings.numbers new (length first.bytes) now
  ends now len expires len_is is =
      is ∙ ap (λ n. first_end n new len now) r.numbers_read ∙ ap (λ len. first_end b.settings.numbers new len now) len_is

pub returns-in-Some-clause-refused : goal.returns-in-Some-clause-refused
returns-in-Some-clause-refused c =
    let b = the_view c.self.inside in
    let r : IsRead b c.args.self.now c.args.tenant c.from-place.result c.numbers-numbers.result.now c.account-account.result c.args.new c.args.first c.creation_refusal.result =
    record { kept = c.self.invariant; is = c.self.view_is; tenant = c.requires.tenant_there; texts = record { metadata = c.requires.metadata; concat = c.requires.concat }; at = c.from-place.ensures; numbers_read = c.numbers-numbers.ensures.value; account_read = c.account-account.ensures; found_is = c.creation_refusal.ensures } in
    inl (rw (← c.self.view_is) (sym (create_answer-refused c.args.tenant b.settings.numbers (tenant_book (plain_of b) c.args.tenant) c.args.new c.args.first c.args.now b.charged c.in-Some.refusal (told r (Some c.in-Some.refusal) c.in-Some.is))))

-- how many bytes the creation has in all, as they were counted
counted : (first : FirstChunk) (len more : ℕ) {read : ℕ} → len ≡ read → read ≡ length first.bytes → more ≡ first.more → len + more ≡ count_all_first first
counted first len more is same more_is = omega (arith, is, same, more_is)

fits_counted : (count all most : ℕ) → count ≡ all → all ≤ most → most ≤ 1099511627776 → Fits w64 count
fits_counted count all most same within small = omega arith

pub overflow_add-count : goal.overflow_add-count
overflow_add-count c =
    let b = the_view c.self.inside in
    let r : IsRead b c.args.self.now c.args.tenant c.from-place.result c.numbers-numbers.result.now c.account-account.result c.args.new c.args.first c.creation_refusal.result =
    record { kept = c.self.invariant; is = c.self.view_is; tenant = c.requires.tenant_there; texts = record { metadata = c.requires.metadata; concat = c.requires.concat }; at = c.from-place.ensures; numbers_read = c.numbers-numbers.ensures.value; account_read = c.account-account.ensures; found_is = c.creation_refusal.ensures } in
    let count = counted c.args.first c.len-len.result c.first.inside.more c.len-len.ensures.value (ap (λ (first : FirstChunk). length first.bytes) c.first.view_is) (ap (λ (first : FirstChunk). first.more) c.first.view_is) in
    let most : c.numbers-numbers.result.now.max_size ≡ b.settings.numbers.max_size = ap (λ (n : Numbers). n.max_size) c.numbers-numbers.ensures.value in
    fits_counted _ _ _ count (all_create-fits b c.args.tenant c.args.new c.args.first c.args.now (creation r c.in_default.is)) (omega (arith, most, c.numbers-numbers.ensures.max_size))

pub body_for-requires : goal.body_for-requires
body_for-requires c =
    let b = the_view c.self.inside in
    let r : IsRead b c.args.self.now c.args.tenant c.from-place.result c.numbers-numbers.result.now c.account-account.result c.args.new c.args.first c.creation_refusal.result =
    record { kept = c.self.invariant; is = c.self.view_is; tenant = c.requires.tenant_there; texts = record { metadata = c.requires.metadata; concat = c.requires.concat }; at = c.from-place.ensures; numbers_read = c.numbers-numbers.ensures.value; account_read = c.account-account.ensures; found_is = c.creation_refusal.ensures } in
    let count = counted c.args.first c.len-len.result c.first.inside.more c.len-len.ensures.value (ap (λ (first : FirstChunk). length first.bytes) c.first.view_is) (ap (λ (first : FirstChunk). first.more) c.first.view_is) in
    let is = creation r c.in_default.is in
    record { blocks = rw count (all_create-blocks b c.args.tenant c.args.new c.args.first c.args.now is) }

pub returns-in-Ok-texts_ahead-clause-ready : goal.returns-in-Ok-texts_ahead-clause-ready
returns-in-Ok-texts_ahead-clause-ready c =
    let b = the_view c.self.inside in
    let r : IsRead b c.args.self.now c.args.tenant c.from-place.result c.numbers-numbers.result.now c.account-account.result c.args.new c.args.first c.creation_refusal.result =
    record { kept = c.self.invariant; is = c.self.view_is; tenant = c.requires.tenant_there; texts = record { metadata = c.requires.metadata; concat = c.requires.concat }; at = c.from-place.ensures; numbers_read = c.numbers-numbers.ensures.value; account_read = c.account-account.ensures; found_is = c.creation_refusal.ensures } in
    let count : c.len-len.result ≡ length c.args.first.bytes = c.len-len.ensures.value ∙ ap (λ (first : FirstChunk). length first.bytes) c.first.view_is in
    let all = counted c.args.first c.len-len.result c.first.inside.more c.len-len.ensures.value (ap (λ (first : FirstChunk). length first.bytes) c.first.view_is) (ap (λ (first : FirstChunk). first.more) c.first.view_is) in
    let is = creation r c.in_default.is in
    let ready : ReadyUpload = record { tenant = c.args.tenant; new = c.args.new; first = c.args.first; now = c.args.now; expires = c.first_end-expires.result; body = c.in-Ok.body; texts = c.in-Ok-texts_ahead.texts } in
    subst (λ (b : StoredBook). IsReadyForUpload b ready) c.self.view_is (record {
      there = omega (arith, c.requires.tenant_there, ap (λ (b : StoredBook). length b.settings.tenants) c.self.view_is);
      metadata = c.requires.metadata;
      concat = c.requires.concat;
      accepted = is.none;
      expires = ends r c.args.now c.len-len.result c.first_end-expires.result count c.first_end-expires.ensures;
      empty = c.in-Ok.ensures.empty;
      room = subst (λ n. HasRoom b.store.pool c.in-Ok.body n) all c.in-Ok.ensures.listed;
      texts = subst (λ (n : Numbers). IsTextsFor n.uploads c.in-Ok-texts_ahead.texts c.args.new.metadata c.args.new.concat) c.numbers-numbers.ensures.value
          (subst (λ (new : NewUpload). IsTextsFor c.numbers-numbers.result.now.uploads c.in-Ok-texts_ahead.texts new.metadata new.concat) c.new.view_is c.in-Ok-texts_ahead.ensures.texts);
    })

pub returns-in_default-body_for-clause-refused : goal.returns-in_default-body_for-clause-refused
returns-in_default-body_for-clause-refused c =
    let b = the_view c.self.inside in
    let r : IsRead b c.args.self.now c.args.tenant c.from-place.result c.numbers-numbers.result.now c.account-account.result c.args.new c.args.first c.creation_refusal.result =
    record { kept = c.self.invariant; is = c.self.view_is; tenant = c.requires.tenant_there; texts = record { metadata = c.requires.metadata; concat = c.requires.concat }; at = c.from-place.ensures; numbers_read = c.numbers-numbers.ensures.value; account_read = c.account-account.ensures; found_is = c.creation_refusal.ensures } in
    let count = counted c.args.first c.len-len.result c.first.inside.more c.len-len.ensures.value (ap (λ (first : FirstChunk). length first.bytes) c.first.view_is) (ap (λ (first : FirstChunk). first.more) c.first.view_is) in
    let is = creation r c.in_default.is in
    let some = subst (λ n. 0 < n) (all_create-taken b c.args.tenant c.args.new c.args.first c.args.now is _ refl) (rw count at c.in_default-body_for.ensures.memory) in
    inr (rw (← c.self.view_is) (create-lacks b c.args.tenant c.args.new c.args.first c.args.now is (inl some), refl))

pub returns-in-Err-clause-refused : goal.returns-in-Err-clause-refused
returns-in-Err-clause-refused c =
    let b = the_view c.self.inside in
    let r : IsRead b c.args.self.now c.args.tenant c.from-place.result c.numbers-numbers.result.now c.account-account.result c.args.new c.args.first c.creation_refusal.result =
    record { kept = c.self.invariant; is = c.self.view_is; tenant = c.requires.tenant_there; texts = record { metadata = c.requires.metadata; concat = c.requires.concat }; at = c.from-place.ensures; numbers_read = c.numbers-numbers.ensures.value; account_read = c.account-account.ensures; found_is = c.creation_refusal.ensures } in
    let many = subst (λ (n : Numbers). TakesTexts n) c.numbers-numbers.ensures.value c.in-Err.ensures.memory in
    inr (rw (← c.self.view_is) (create-lacks b c.args.tenant c.args.new c.args.first c.args.now (creation r c.in_default.is) (inr many), refl))
