-- There are no more uploads that expire than there are uploads, so no more than a book may have.
use Rattle.std.proofs.Common.{◌≡◌, ◌≢◌, ℕ, ◌<◌, ◌≤◌, ◌*◌, true, List, [], ◌∷◌, length, map, get_or, Some, inl, inr, sym, ap, ◌∙◌, subst, arith}
use Rattle.std.specs.List.{All, Contains, flat_map, range_with_len, remove}
use Rattle.std.specs.Option.{unwrap_or}
use Rattle.std.proofs.lemmas.Bool.{false≢true}
use Rattle.std.proofs.lemmas.List.Concat.{flat_map-cons, length-flat_map}
use Rattle.std.proofs.lemmas.List.Edits.{length-remove}
use Rattle.std.proofs.lemmas.List.Elements.{All-contains, Contains-append_left, Contains-append_right}
use Rattle.std.proofs.lemmas.List.FromFn.{get_or-range_with_len, length-range_with_len}
use Rattle.std.proofs.lemmas.List.Sorted.{Contains-permutation, IsPermutation-remove}
use Rattle.std.proofs.lemmas.List.Sums.{sum_by-le}
use Rattle.std.proofs.lemmas.Option.{option_and_then_some}
use Rattle.std.proofs.Math.ListN.{get_or-map, length-map}
use Rattle.upload_book.specs.declared.expiry_list.Expiring.{Expiring}
use Rattle.upload_book.specs.Expiries.{AreExpiries, ends_of}
use Rattle.upload_book.specs.ExpiryList.{comes_before, IsAscending}
use Rattle.upload_book.specs.Lawful.{IsLawful}
use Rattle.upload_book.specs.PlainBook.{PlainBook, tenant_book}
use Rattle.upload_book.specs.TenantBook.{Entry, kept_in, opening_part}
use Rattle.upload_book.specs.Upload.{Upload}
use Rattle.upload_book.proofs.Expiries.BookEnds.{tenant-there}
use Rattle.upload_book.proofs.Expiries.EndsLemmas.{in-first, in-rest, in-cases}
use Rattle.upload_book.proofs.Lawful.Entries.{kept_in-contains}
use Rattle.upload_book.proofs.Expiries.ExpiryLemmas.{before-self, pairs-head, pairs-tail}

abbrev IsBefore : Expiring → Expiring → Type 0
IsBefore x y = comes_before x y ≡ true

-- a list in order is no longer than one that has all of it
pub few-within : (xs ys : List Expiring) → IsAscending xs → ((x : Expiring) → Contains xs x → Contains ys x) → length xs ≤ length ys
few-within [] ys ascending inside = omega arith
few-within (x ∷ xs) ys ascending inside =
    let there = inside x (in-first x xs) in
    let rest : (y : Expiring) → Contains xs y → Contains (remove ys there.0) y = λ y later.
    elim (in-cases x (remove ys there.0) y (Contains-permutation ys (x ∷ remove ys there.0) y (IsPermutation-remove ys there.0 x there.1 (sym there.2)) (inside y (in-rest x xs y later)))) [
      | inl same ↦
          absurd (false≢true (sym (before-self x) ∙ ap (comes_before x) same ∙ All-contains (IsBefore x) xs y (pairs-head IsBefore x xs ascending) later))
      | inr left ↦ left
    ] in
    let shorter = few-within xs (remove ys there.0) (pairs-tail IsBefore x xs ascending) rest in
    omega (arith, shorter, length-remove ys there.0 there.1)

-- an upload of a tenant as one that expires, whether it does or not
abbrev as_expiring : ℕ → Entry Upload → Expiring
as_expiring t e = record { at = unwrap_or e.kept.expires 0; name = record { tenant = t; id = e.id } }

-- those of a tenant,
abbrev uploads_at : PlainBook → ℕ → List Expiring
uploads_at b t = map {A = Entry Upload} {B = Expiring} (as_expiring t) (tenant_book b t).uploads

-- and all
abbrev all_uploads : PlainBook → List Expiring
all_uploads b = flat_map (uploads_at b) (range_with_len 0 (length b.tenants))

in-flat_map : (f : ℕ → List Expiring) (ts : List ℕ) (t : ℕ) (x : Expiring) → Contains ts t → Contains (f t) x → Contains (flat_map f ts) x
in-flat_map f [] t x there inside = absurd (omega (arith, there.1))
in-flat_map f (n ∷ ts) t x there inside = subst (λ list. Contains list x) (sym (flat_map-cons f n ts)) (elim (in-cases n ts t there) [
  | inl same ↦ Contains-append_left (f n) (flat_map f ts) x (subst (λ n. Contains (f n) x) (sym same) inside)
  | inr later ↦ Contains-append_right (f n) (flat_map f ts) x (in-flat_map f ts t x later inside)
])

-- the numbers below an end stand at their places
at-itself : (n k d : ℕ) → k < n → get_or (range_with_len 0 n) k d ≡ k
at-itself n k d within = get_or-range_with_len 0 n k d within ∙ omega arith

-- there are as many as the tenants may have
all_uploads-few : (b : PlainBook) → IsLawful b → length (all_uploads b) ≤ length b.tenants * b.settings.numbers.uploads
all_uploads-few b lawful =
    let each : All (λ t. length (uploads_at b t) ≤ b.settings.numbers.uploads) (range_with_len 0 (length b.tenants)) = λ k d within.
    let inside : k < length b.tenants = omega (arith, within, length-range_with_len 0 (length b.tenants)) in
    subst (λ t. length (uploads_at b t) ≤ b.settings.numbers.uploads) (sym (at-itself (length b.tenants) k d inside))
    (omega (arith, length-map (tenant_book b k).uploads (as_expiring k), (lawful.tenants k (opening_part 0) inside).few)) in
    let long = sum_by-le (λ t. length (uploads_at b t)) b.settings.numbers.uploads (range_with_len 0 (length b.tenants)) each in
    subst (λ n. length (all_uploads b) ≤ n * b.settings.numbers.uploads) (length-range_with_len 0 (length b.tenants))
    (subst (λ n. n ≤ length (range_with_len 0 (length b.tenants)) * b.settings.numbers.uploads) (sym (length-flat_map (uploads_at b) (range_with_len 0 (length b.tenants)))) long)

-- an upload that is kept is among them
kept-among : (b : PlainBook) (x : Expiring) (u : Upload) → x.name.tenant < length b.tenants → kept_in (tenant_book b x.name.tenant).uploads x.name.id ≡ Some u → u.expires ≡ Some x.at → Contains (all_uploads b) x
kept-among b x u within kept end =
    let t = x.name.tenant in
    let e : Entry Upload = record { id = x.name.id; kept = u } in
    let uploads = (tenant_book b t).uploads in
    let there = kept_in-contains uploads x.name.id u kept in
    let is : as_expiring t e ≡ x = ap (λ end. record { at = unwrap_or end 0; name = x.name }) end in
    let here : Contains (uploads_at b t) (as_expiring t e) = (there.0, omega (arith, there.1, length-map uploads (as_expiring t)), get_or-map (as_expiring t) uploads there.0 e ∙ ap (as_expiring t) there.2) in
    in-flat_map (uploads_at b) (range_with_len 0 (length b.tenants)) t x (t, omega (arith, within, length-range_with_len 0 (length b.tenants)), at-itself (length b.tenants) t t within) (subst (Contains (uploads_at b t)) is here)

-- so is one that expires
expiring-among : (b : PlainBook) (x : Expiring) → ends_of b x.name ≡ Some x.at → Contains (all_uploads b) x
expiring-among b x told =
    option_and_then_some (λ (u : Upload). u.expires) (kept_in (tenant_book b x.name.tenant).uploads x.name.id) x.at told (λ u kept end. kept-among b x u (tenant-there b x.name x.at told) kept end)

-- a list of some that expire is no longer than the tenants may have uploads
pub expiries-few : (b : PlainBook) (list : List Expiring) → IsLawful b → AreExpiries b list → length list ≤ length b.tenants * b.settings.numbers.uploads
expiries-few b list lawful are =
    let within = few-within list (all_uploads b) are.ascending (λ x there. expiring-among b x ((are.each x).0 there)) in
    omega (arith, within, all_uploads-few b lawful)

-- and shorter where one that expires is not in it
pub expiries-room : (b : PlainBook) (list : List Expiring) (x : Expiring) → IsLawful b → IsAscending list → ends_of b x.name ≡ Some x.at → ((y : Expiring) → Contains list y → (ends_of b y.name ≡ Some y.at) × (x ≢ y))
    → length list < length b.tenants * b.settings.numbers.uploads
expiries-room b list x lawful ascending told each =
    let all : List Expiring = all_uploads b in
    let there = expiring-among b x told in
    let rest : (y : Expiring) → Contains list y → Contains (remove all there.0) y = λ y inside.
    elim (in-cases x (remove all there.0) y (Contains-permutation all (x ∷ remove all there.0) y (IsPermutation-remove all there.0 x there.1 (sym there.2)) (expiring-among b y (each y inside).0))) [
      | inl same ↦ absurd ((each y inside).1 same)
      | inr left ↦ left
    ] in
    let shorter = few-within list (remove all there.0) ascending rest in
    omega (arith, shorter, length-remove all there.0 there.1, all_uploads-few b lawful)
