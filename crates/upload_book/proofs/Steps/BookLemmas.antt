-- The plain book after each step: what is charged and released, and that it is lawful.
use Rattle.std.proofs.Common.{◌≡◌, ℕ, ◌+◌, ◌-◌, ◌<◌, ◌≤◌, List, length, set, Some, None, refl, ap, ◌∙◌, arith}
use Rattle.std.proofs.lemmas.List.{set-get_or}
use Rattle.upload_book.specs.Account.{account_in}
use Rattle.upload_book.specs.Append.{append_refusal, upload_with}
use Rattle.upload_book.specs.Charge.{charge_in}
use Rattle.upload_book.specs.Chunk.{Chunk}
use Rattle.upload_book.specs.Concat.{concat_refusal, joined_upload}
use Rattle.upload_book.specs.Create.{creation_refusal, created_upload}
use Rattle.upload_book.specs.declared.settings.Numbers.{Numbers}
use Rattle.upload_book.specs.Lawful.{IsLawful, IsTenantOf}
use Rattle.upload_book.specs.FirstChunk.{FirstChunk}
use Rattle.upload_book.specs.NewFinal.{NewFinal}
use Rattle.upload_book.specs.NewUpload.{NewUpload}
use Rattle.upload_book.specs.PlainBook.{PlainBook, book_after, tenant_book, with_tenant_book}
use Rattle.upload_book.specs.TenantBook.{TenantBook, kept_in, opening_part, with_changed, with_new}
use Rattle.upload_book.specs.Terminate.{given_back}
use Rattle.upload_book.specs.Upload.{Upload, head_row_of}
use Rattle.upload_book.proofs.Charge.ChargeLemmas.{charge-append, charge-create}
use Rattle.upload_book.proofs.Lawful.LawfulAppend.{IsAppendable, IsAppendable-from_none, IsTenantOf-append}
use Rattle.upload_book.proofs.Lawful.LawfulConcat.{HasLawfulParts, IsTenantOf-concat, charge-concat}
use Rattle.upload_book.proofs.Lawful.LawfulCreate.{HasLawfulTexts, IsCreatable, IsCreatable-from_none, IsTenantOf-create}
use Rattle.upload_book.proofs.Lawful.LawfulSteps.{IsLawful-with_tenant_book, IsLawful-with_tenant_book-same}

-- the book with these parts and totals
abbrev pub book_with : PlainBook → List TenantBook → ℕ → ℕ → PlainBook
book_with b tenants charged released = record b { tenants = tenants; charged = charged; released = released }

same_totals : (b : PlainBook) (tenants : List TenantBook) (c d r s : ℕ) → c ≡ d → r ≡ s → book_with b tenants c r ≡ book_with b tenants d s
same_totals b tenants c d r s charged released = rw (charged, released) refl

-- what a part pays more is charged, and nothing is released
pub with_tenant_book-more : (b : PlainBook) (t added : ℕ) (part : TenantBook) → charge_in b.settings.numbers part ≡ charge_in b.settings.numbers (tenant_book b t) + added
    → with_tenant_book b t part ≡ book_with b (set b.tenants t part) (b.charged + added) b.released
with_tenant_book-more b t added part is =
    same_totals b (set b.tenants t part) _ (b.charged + added) _ b.released (charges _ _ _ _ is) (releases _ _ _ _ is)
  where
    charges : (charged before after added : ℕ) → after ≡ before + added → charged + (after - before) ≡ charged + added
    charges charged before after added is = omega arith

    releases : (released before after added : ℕ) → after ≡ before + added → released + (before - after) ≡ released
    releases released before after added is = omega arith

-- what a part pays less is released, and nothing is charged
pub with_tenant_book-less : (b : PlainBook) (t : ℕ) (part : TenantBook) → charge_in b.settings.numbers part ≤ charge_in b.settings.numbers (tenant_book b t)
    → with_tenant_book b t part ≡ book_with b (set b.tenants t part) b.charged (b.released + given_back b.settings.numbers (tenant_book b t) part)
with_tenant_book-less b t part less =
    same_totals b (set b.tenants t part) _ b.charged _ _ (charges _ _ _ less) refl
  where
    charges : (charged before after : ℕ) → after ≤ before → charged + (after - before) ≡ charged
    charges charged before after less = omega arith

-- a part that pays what it paid leaves the totals
pub with_tenant_book-same : (b : PlainBook) (t : ℕ) (part : TenantBook) → charge_in b.settings.numbers part ≡ charge_in b.settings.numbers (tenant_book b t)
    → with_tenant_book b t part ≡ book_with b (set b.tenants t part) b.charged b.released
with_tenant_book-same b t part is =
    with_tenant_book-more b t 0 part (omega (arith, is)) ∙ same_totals b (set b.tenants t part) _ b.charged _ b.released (omega arith) refl

-- a part that stays leaves the book
pub with_tenant_book-itself : (b : PlainBook) (t : ℕ) → with_tenant_book b t (tenant_book b t) ≡ b
with_tenant_book-itself b t =
    with_tenant_book-same b t (tenant_book b t) refl ∙ ap (λ tenants. book_with b tenants b.charged b.released) (set-get_or b.tenants t (opening_part 0))

-- so does a step that leaves the part
pub book_after-stays : (b : PlainBook) (t : ℕ) (after : Numbers → TenantBook → TenantBook) → after b.settings.numbers (tenant_book b t) ≡ tenant_book b t → book_after b t after ≡ b
book_after-stays b t after same = ap (with_tenant_book b t) same ∙ with_tenant_book-itself b t

-- a tenant's part is as it should be
pub IsTenantOf-book : (b : PlainBook) (t : ℕ) → IsLawful b → t < length b.tenants → IsTenantOf b.settings.numbers (tenant_book b t)
IsTenantOf-book b t lawful within = lawful.tenants t (opening_part 0) within

-- a concatenation that is not refused leaves a lawful book lawful
pub IsLawful-concat : (b : PlainBook) (t : ℕ) (new : NewFinal) (now : ℕ) → IsLawful b → t < length b.tenants → concat_refusal b.settings.numbers (tenant_book b t) new now ≡ None → HasLawfulParts new
    → IsLawful (with_tenant_book b t (with_new (tenant_book b t) (joined_upload b.settings.numbers (tenant_book b t) new now)))
IsLawful-concat b t new now lawful within none asked =
    let part : TenantBook = tenant_book b t in
    let sound = IsTenantOf-book b t lawful within in
    IsLawful-with_tenant_book-same b t (with_new part (joined_upload b.settings.numbers part new now)) lawful within refl
    (IsTenantOf-concat b.settings.numbers part new now none asked sound)
    (charge-concat b.settings.numbers part new now sound)

-- what is charged for more blocks stays within its bound
more_bound : (after before added charged last : ℕ) → after ≡ before + added → charged + added ≤ last → charged + (after - before) ≤ last
more_bound after before added charged last is within = omega arith

-- so does a PATCH that is not refused
pub IsLawful-append : (b : PlainBook) (t id : ℕ) (u : Upload) (chunk : Chunk) (now : ℕ) → IsLawful b → t < length b.tenants → kept_in (tenant_book b t).uploads id ≡ Some u
    → append_refusal b.settings.numbers (account_in b.settings.numbers (tenant_book b t) b.charged) (head_row_of u) chunk ≡ None
    → IsLawful (with_tenant_book b t (with_changed (tenant_book b t) id (upload_with b.settings.numbers u chunk now)))
IsLawful-append b t id u chunk now lawful within there none =
    let part : TenantBook = tenant_book b t in
    let later : TenantBook = with_changed (tenant_book b t) id (upload_with b.settings.numbers u chunk now) in
    let account = account_in b.settings.numbers (tenant_book b t) b.charged in
    let sound = IsTenantOf-book b t lawful within in
    let can : IsAppendable b.settings.numbers account u chunk = IsAppendable-from_none b.settings.numbers account u chunk none in
    let is = charge-append b.settings.numbers account part id u chunk now sound there none in
    IsLawful-with_tenant_book b t later lawful within refl
    (IsTenantOf-append b.settings.numbers account part id u chunk now there none sound)
    (omega (arith, is, can.paid))
    (more_bound _ _ _ _ _ is can.unspent)

-- so does a creation that is not refused
pub IsLawful-create : (b : PlainBook) (t : ℕ) (new : NewUpload) (first : FirstChunk) (now : ℕ) → IsLawful b → t < length b.tenants
    → creation_refusal b.settings.numbers (account_in b.settings.numbers (tenant_book b t) b.charged) (tenant_book b t) new first ≡ None → HasLawfulTexts new
    → IsLawful (with_tenant_book b t (with_new (tenant_book b t) (created_upload b.settings.numbers new first.bytes now)))
IsLawful-create b t new first now lawful within none texts =
    let part : TenantBook = tenant_book b t in
    let account = account_in b.settings.numbers (tenant_book b t) b.charged in
    let sound = IsTenantOf-book b t lawful within in
    let can : IsCreatable b.settings.numbers account part new first = IsCreatable-from_none b.settings.numbers account part new first none in
    let is = charge-create b.settings.numbers part new first.bytes now sound in
    IsLawful-with_tenant_book b t (with_new part (created_upload b.settings.numbers new first.bytes now)) lawful within refl
    (IsTenantOf-create b.settings.numbers account part new first now none texts sound)
    (omega (arith, is, can.paid))
    (more_bound _ _ _ _ _ is can.unspent)
