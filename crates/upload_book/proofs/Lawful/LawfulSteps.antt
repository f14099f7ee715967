-- The book at the start is lawful, and so is one with a part that changed into one that is as it should be.
use Rattle.std.proofs.Common.{◌≡◌, ◌⊎◌, ℕ, zero, suc, ◌+◌, ◌-◌, ◌<◌, ◌≤◌, List, [], ◌∷◌, map, length, get_or, set, refl, sym, ap, ◌∙◌, subst, arith, rules}
use Rattle.std.proofs.Math.ListN.{length-append}
use Rattle.std.proofs.lemmas.List.{map-append}
use Rattle.std.proofs.lemmas.Slice.Zip.{length-zip, get_or-zip}
use Rattle.std.proofs.lemmas.List.Elements.{All-nil, All-push, All-set, All-map, All-weaker}
use Rattle.std.proofs.lemmas.List.Sums.{sum_by-cons, sum_by-set}
use Rattle.std.specs.List.{All, Contains, sum_by, zip}
use Rattle.upload_book.specs.Charge.{charge_in}
use Rattle.upload_book.specs.declared.head_row.Kind.{Kind}
use Rattle.upload_book.specs.declared.head_row.Kind.TheVariants.{Plain, Partial, Final}
use Rattle.upload_book.specs.declared.settings.Numbers.{Numbers}
use Rattle.upload_book.specs.declared.settings.TenantQuota.{TenantQuota}
use Rattle.upload_book.specs.Lawful.{IsLawful, IsTenantOf, IsUploadOf, IsOfKind, IsGivenIn, IsSegmentOf, joined_in}
use Rattle.upload_book.specs.PlainBook.{PlainBook, with_tenant_book, opening_book, tenant_book}
use Rattle.upload_book.specs.Settings.{AreSound, Settings}
use Rattle.upload_book.specs.TenantBook.{Entry, TenantBook, with_new, opening_part}
use Rattle.upload_book.specs.Upload.{Upload}
use Rattle.upload_book.proofs.Charge.InUse.{Contains-none}
use Rattle.upload_book.proofs.Lawful.Entries.{ids-push, kept_in-push}
use Rattle.upload_book.proofs.Lawful.SharedLemmas.{ShareParts-push, joined-own}

-- a tenant's part at the start is as it should be
IsTenantOf-opening : (n : Numbers) (quota : ℕ) → IsTenantOf n (opening_part quota)
IsTenantOf-opening n quota = record {
  first = omega arith;
  last = omega arith;
  few = omega arith;
  ascending = search rules;
  given = search rules;
  uploads = search rules;
  later = All-nil (λ (e : Entry Upload). All (λ p. p < e.id) e.kept.parts);
  shared = λ a b in_a in_b same. absurd (Contains-none a in_a);
}

-- it pays nothing
charge-opening : (n : Numbers) (quota : ℕ) → charge_in n (opening_part quota) ≡ 0
charge-opening n quota = refl

-- the parts at the start
abbrev pub opening_parts : List TenantQuota → List TenantBook
opening_parts tenants = map {A = TenantQuota} {B = TenantBook} (λ t. opening_part t.quota) tenants

-- each has the quota of the settings
quotas-opening : (tenants : List TenantQuota) → map {A = TenantBook} {B = ℕ} (λ part. part.quota) (opening_parts tenants) ≡ map {A = TenantQuota} {B = ℕ} (λ t. t.quota) tenants
quotas-opening [] = refl
quotas-opening (t ∷ tenants) = ap (λ rest. t.quota ∷ rest) (quotas-opening tenants)

-- no part at the start pays anything
charges-opening : (n : Numbers) (tenants : List TenantQuota) → sum_by (charge_in n) (opening_parts tenants) ≡ 0
charges-opening n [] = refl
charges-opening n (t ∷ tenants) =
    omega (arith, sum_by-cons (charge_in n) (opening_part t.quota) (opening_parts tenants), charges-opening n tenants, charge-opening n t.quota)

-- the book at the start is lawful
pub IsLawful-opening : (s : Settings) → AreSound s → IsLawful (opening_book s)
IsLawful-opening s sound = record {
  settings = sound;
  quotas = quotas-opening s.tenants;
  tenants = All-map (IsTenantOf s.numbers) (λ (t : TenantQuota). opening_part t.quota) s.tenants (λ k d within. IsTenantOf-opening s.numbers _);
  charges = All-map (λ (part : TenantBook). charge_in s.numbers part ≤ part.quota) (λ (t : TenantQuota). opening_part t.quota) s.tenants (λ k d within. omega (arith, charge-opening s.numbers (get_or s.tenants k d).quota));
  totals = omega (arith, charges-opening s.numbers s.tenants);
  last = omega arith;
}

-- the quotas stay where one part changes and keeps its own
quotas-set : (tenants : List TenantBook) (t : ℕ) (part d : TenantBook) → part.quota ≡ (get_or tenants t d).quota → map {A = TenantBook} {B = ℕ} (λ part. part.quota) (set tenants t part) ≡ map {A = TenantBook} {B = ℕ} (λ part. part.quota) tenants
quotas-set [] t part d same = refl
quotas-set (first ∷ tenants) zero part d same = ap (λ q. q ∷ map {A = TenantBook} {B = ℕ} (λ part. part.quota) tenants) same
quotas-set (first ∷ tenants) (suc t) part d same = ap (λ rest. first.quota ∷ rest) (quotas-set tenants t part d same)

-- One part changes into one that is as it should be, with the same quota: it pays no more than its quota, and
-- what is charged for it in all is within its bound.
pub IsLawful-with_tenant_book : (b : PlainBook) (t : ℕ) (part : TenantBook) → IsLawful b → t < length b.tenants → part.quota ≡ (tenant_book b t).quota → IsTenantOf b.settings.numbers part
    → charge_in b.settings.numbers part ≤ part.quota
    → b.charged + (charge_in b.settings.numbers part - charge_in b.settings.numbers (tenant_book b t)) ≤ b.settings.numbers.last_total
    → IsLawful (with_tenant_book b t part)
IsLawful-with_tenant_book b t part lawful within same sound pays last = record {
  settings = lawful.settings;
  quotas = quotas-set b.tenants t part (opening_part 0) same ∙ lawful.quotas;
  tenants = All-set (IsTenantOf b.settings.numbers) b.tenants t part sound lawful.tenants;
  charges = All-set (λ (part : TenantBook). charge_in b.settings.numbers part ≤ part.quota) b.tenants t part pays lawful.charges;
  totals = moved_total _ _ _ _ _ _ lawful.totals (sum_by-set (charge_in b.settings.numbers) b.tenants t part (opening_part 0) within);
  last = last;
}
  where
    moved_total : (charged released all later before after : ℕ) → charged ≡ released + all → later + before ≡ all + after → charged + (after - before) ≡ released + (before - after) + later
    moved_total charged released all later before after total sums = omega arith

-- the part of a tenant pays no more than its quota
pub charge-within : (b : PlainBook) (t : ℕ) → IsLawful b → t < length b.tenants → charge_in b.settings.numbers (tenant_book b t) ≤ (tenant_book b t).quota
charge-within b t lawful within = lawful.charges t (opening_part 0) within

-- the same where it pays no more than before
pub IsLawful-with_tenant_book-less : (b : PlainBook) (t : ℕ) (part : TenantBook) → IsLawful b → t < length b.tenants → part.quota ≡ (tenant_book b t).quota → IsTenantOf b.settings.numbers part
    → charge_in b.settings.numbers part ≤ charge_in b.settings.numbers (tenant_book b t) → IsLawful (with_tenant_book b t part)
IsLawful-with_tenant_book-less b t part lawful within same sound less =
    IsLawful-with_tenant_book b t part lawful within same sound (omega (arith, less, same, charge-within b t lawful within)) (bound _ _ _ _ less lawful.last)
  where
    bound : (after before charged last : ℕ) → after ≤ before → charged ≤ last → charged + (after - before) ≤ last
    bound after before charged last less within = omega arith

-- the same where it pays what it paid before
pub IsLawful-with_tenant_book-same : (b : PlainBook) (t : ℕ) (part : TenantBook) → IsLawful b → t < length b.tenants → part.quota ≡ (tenant_book b t).quota → IsTenantOf b.settings.numbers part
    → charge_in b.settings.numbers part ≡ charge_in b.settings.numbers (tenant_book b t) → IsLawful (with_tenant_book b t part)
IsLawful-with_tenant_book-same b t part lawful within same sound pays =
    IsLawful-with_tenant_book-less b t part lawful within same sound (omega (arith, pays))

-- the same for what its kind asks
IsOfKind-beside : (part later : TenantBook) (u : Upload) → ((id : ℕ) → IsGivenIn part id → IsGivenIn later id) → ((id : ℕ) (segment : List ℕ) → IsGivenIn part id → IsSegmentOf part id segment → IsSegmentOf later id segment) → (kind : Kind) → IsOfKind part u kind → IsOfKind later u kind
IsOfKind-beside part later u given same Plain sound = sound
IsOfKind-beside part later u given same Partial sound = sound
IsOfKind-beside part later u given same Final sound =
    let parts = sound.0 in (
      record {
        some = parts.some;
        few = parts.few;
        given = All-weaker (IsGivenIn part) (IsGivenIn later) given u.parts parts.given;
        each = parts.each;
        same = λ k d within.
            let pairs = length-zip u.parts u.segments in
            let in_parts : k < length u.parts = omega (arith, parts.each) in
            let in_segments : k < length u.segments = omega (arith, parts.each) in
            let pair = get_or-zip u.parts u.segments k d in_parts in_segments in
            let P : (ℕ × List ℕ) → Type 0 = λ p. IsSegmentOf later p.0 p.1 in
            let Q : (ℕ × List ℕ) → Type 0 = λ p. IsSegmentOf part p.0 p.1 in
            subst P (sym pair) (same (get_or u.parts k d.0) (get_or u.segments k d.1) (parts.given k d.0 in_parts) (subst Q pair (parts.same k d within)));
      },
      sound.1,
    )

-- what is lawful of an upload beside the uploads of a part is so beside those of another, where the
-- ids that were given still are, and a part of a final upload still stands for its segment
pub IsUploadOf-beside : (n : Numbers) (part later : TenantBook) (u : Upload) → ((id : ℕ) → IsGivenIn part id → IsGivenIn later id) → ((id : ℕ) (segment : List ℕ) → IsGivenIn part id → IsSegmentOf part id segment → IsSegmentOf later id segment) → IsUploadOf n part u → IsUploadOf n later u
IsUploadOf-beside n part later u given same sound = record {
  within = sound.within;
  size = sound.size;
  kind = IsOfKind-beside part later u given same u.kind sound.kind;
  ends = sound.ends;
  metadata = sound.metadata;
  concat = sound.concat;
}

-- the parts of an upload are earlier than an id, and it has the bytes of each that others have
pub record HasSharedParts (part : TenantBook) (id : ℕ) (u : Upload) : Type 0 where
  pub earlier : All (λ p. p < id) u.parts
  pub same :
      (a b : ℕ × List ℕ) → Contains (zip u.parts u.segments) a → Contains (joined_in part.uploads) b ⊎ Contains (zip u.parts u.segments) b
      → a.0 ≡ b.0 → a.1 ≡ b.1

-- an upload without parts has
pub HasSharedParts-none : (part : TenantBook) (id : ℕ) (u : Upload) → u.parts ≡ [] → HasSharedParts part id u
HasSharedParts-none part id u none = record {
  earlier = rw none (All-nil (λ p. p < id));
  same = λ a b in_a in_b same. absurd (Contains-none a (subst (λ l. Contains l a) (joined-own u none) in_a));
}

-- one more upload that is as it should be leaves the tenant's part so, where there is room for it
pub IsTenantOf-with_new : (n : Numbers) (part : TenantBook) (u : Upload) → length part.uploads < n.uploads → part.next ≤ n.last_id → IsUploadOf n (with_new part u) u → HasSharedParts part part.next u → IsTenantOf n part → IsTenantOf n (with_new part u)
IsTenantOf-with_new n part u room unspent own parts sound =
    let added : Entry Upload = record { id = part.next; kept = u } in
    let later : TenantBook = with_new part u in
    let given : (id : ℕ) → IsGivenIn part id → IsGivenIn later id = λ id given. (given.0, omega (arith, given.1)) in
    let same : (id : ℕ) (segment : List ℕ) → IsGivenIn part id → IsSegmentOf part id segment → IsSegmentOf later id segment = λ id segment given is. (rw (kept_in-push part.uploads added id (omega (arith, given.1))) is) in
    record {
      first = omega arith;
      last = omega (arith, unspent);
      few = omega (arith, room, length-append part.uploads (added ∷ []));
      ascending = rw (map-append (λ (e : Entry Upload). e.id) part.uploads (added ∷ [])) (ids-push _ _ sound.ascending (All-map (λ id. id < part.next) (λ (e : Entry Upload). e.id) part.uploads (All-weaker (λ (e : Entry Upload). IsGivenIn part e.id) (λ (e : Entry Upload). e.id < part.next) (λ e g. g.1) part.uploads sound.given)));
      given = All-push (λ (e : Entry Upload). IsGivenIn later e.id) part.uploads added (All-weaker (λ (e : Entry Upload). IsGivenIn part e.id) (λ (e : Entry Upload). IsGivenIn later e.id) (λ e. given e.id) part.uploads sound.given) (sound.first, omega arith);
      uploads = All-push (λ (e : Entry Upload). IsUploadOf n later e.kept) part.uploads added (All-weaker (λ (e : Entry Upload). IsUploadOf n part e.kept) (λ (e : Entry Upload). IsUploadOf n later e.kept) (λ e. IsUploadOf-beside n part later e.kept given same) part.uploads sound.uploads) own;
      later = All-push (λ (e : Entry Upload). All (λ p. p < e.id) e.kept.parts) part.uploads added sound.later parts.earlier;
      shared = ShareParts-push part.uploads added sound.shared parts.same;
    }
