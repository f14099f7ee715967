-- How much a book holds, id by id and tenant by tenant.
use Rattle.std.proofs.Common.{◌≡◌, ◌⊎◌, ℕ, zero, suc, ◌+◌, ◌<◌, ◌≤◌, Bool, true, false, ◌&&◌, if◌then◌else◌, nat_lt, List, length, take, Option, Some, None, Ok, Err, refl, sym, ap, ◌∙◌, inl, inr, arith}
use Rattle.std.proofs.Math.Nat.{eq-or-lt_of_le}
use Rattle.std.specs.List.{sum_by}
use Rattle.std.proofs.lemmas.Bool.Decides.{nat_tests}
use Rattle.std.proofs.lemmas.List.{take_all}
use Rattle.upload_book.specs.Charge.{sum_below}
use Rattle.upload_book.specs.Expiry.{has_expired}
use Rattle.upload_book.specs.Lawful.{IsLawful}
use Rattle.upload_book.specs.Look.{look_answer, row_of}
use Rattle.upload_book.specs.PlainBook.{PlainBook, tenant_book}
use Rattle.upload_book.specs.TenantBook.{TenantBook, is_given, kept_in, visible}
use Rattle.upload_book.specs.Upload.{Upload}
use Rattle.upload_book.specs.declared.refusal.Refusal.TheVariants.{Unknown, Gone}
use Rattle.upload_book.specs.declared.settings.Numbers.{Numbers}
use Rattle.upload_book.proofs.Heads.LineLemmas.{tenants-settings}
use Rattle.upload_book.proofs.Lawful.SettingsLemmas.{last_id-within}
use Rattle.upload_book.proofs.Steps.BookLemmas.{IsTenantOf-book}
use Rattle.journal_folders.specs.Held.{IsHeldIn, bytes_in, bytes_told, bytes_under, capped}
use Rattle.journal_folders.specs.declared.held.Held.{Held}

-- an id past the last that was given has no bytes
none_past : (n : Numbers) (part : TenantBook) (id : ℕ) → part.next ≤ id → bytes_under n part id ≡ 0
none_past n part id past =
    let given : is_given part id ≡ false = grind (arith, nat_tests) in
    ap (λ (given : Bool). bytes_told (row_of (if given then visible (λ (u : Upload). u.expires) 0 (kept_in part.uploads id) else Err Unknown))) given

same_sum : (a b c : ℕ) → a ≡ c → b ≡ 0 → a + b ≡ c
same_sum a b c same none = omega arith

past_last : (f : ℕ → ℕ) (next id : ℕ) → next ≤ id → ((i : ℕ) → next ≤ i → f i ≡ 0) → sum_below id f ≡ sum_below next f
past_last f next zero past none = let is : zero ≡ next = omega (arith, past) in ap (λ (n : ℕ). sum_below n f) is
past_last f next (suc id) past none = by (eq-or-lt_of_le past) (λ before. past_last f next id before none)
  where
    by : (next ≡ suc id) ⊎ (next < suc id) → (next ≤ id → sum_below id f ≡ sum_below next f) → sum_below (suc id) f ≡ sum_below next f
    by (inl is) rest = ap (λ (n : ℕ). sum_below n f) (sym is)
    by (inr less) rest = same_sum (sum_below id f) (f id) (sum_below next f) (rest (omega (arith, less))) (none id (omega (arith, less)))

-- the ids before one that is past all are all
pub summed-all : (n : Numbers) (part : TenantBook) (id bytes : ℕ) → part.next ≤ id → bytes ≡ capped (sum_below id (bytes_under n part)) → bytes ≡ capped (bytes_in n part)
summed-all n part id bytes past so_far = so_far ∙ ap capped (past_last (bytes_under n part) part.next id past (none_past n part))

ended : (has_ended : Bool) (u : Upload) → row_of (if has_ended then Err Gone else Ok u) ≡ Err Unknown → true ≡ false
ended true u is = cc
ended false u is = cc

not_given : (given : Bool) (found : Option Upload) → row_of (if given then visible (λ (u : Upload). u.expires) 0 found else Err Unknown) ≡ Err Unknown → given ≡ false
not_given false found is = refl
not_given true None is = cc
not_given true (Some u) is = ended (has_expired 0 u.expires) u is

beyond : (id next : ℕ) → 0 < id → (nat_lt 0 id && nat_lt id next) ≡ false → next ≤ id
beyond id next some not = grind (arith, nat_tests)

-- an id that is unknown is past all
pub unknown-past : (n : Numbers) (part : TenantBook) (id : ℕ) → 0 < id → look_answer id 0 n part ≡ Err Unknown → part.next ≤ id
unknown-past n part id some is = beyond id part.next some (not_given (is_given part id) (kept_in part.uploads id) is)

-- no id is past 64 bits
pub next-within : (b : PlainBook) (tenant : ℕ) → IsLawful b → tenant < length b.settings.tenants → (tenant_book b tenant).next ≤ 18446744073709551615
next-within b tenant lawful there =
    let part = IsTenantOf-book b tenant lawful (omega (arith, there, tenants-settings b lawful)) in
    omega (arith, part.last, last_id-within b.settings lawful.settings)

-- ---- the tenants of a book

-- what the first tenants hold, so many
pub record IsHeldSoFar (b : PlainBook) (few : ℕ) (held : Held) : Type 0 where
  pub uploads : held.uploads ≡ capped (sum_by (λ (part : TenantBook). length part.uploads) (take few b.tenants))
  pub bytes : held.bytes ≡ capped (sum_by (bytes_in b.settings.numbers) (take few b.tenants))

-- these are all, where no tenant is left
pub held-all : (b : PlainBook) (few : ℕ) (held : Held) → length b.tenants ≤ few → IsHeldSoFar b few held → IsHeldIn b held
held-all b few held all so_far = record {
  uploads = so_far.uploads ∙ ap (λ (parts : List TenantBook). capped (sum_by (λ (part : TenantBook). length part.uploads) parts)) (take_all few b.tenants all);
  bytes = so_far.bytes ∙ ap (λ (parts : List TenantBook). capped (sum_by (bytes_in b.settings.numbers) parts)) (take_all few b.tenants all);
}
