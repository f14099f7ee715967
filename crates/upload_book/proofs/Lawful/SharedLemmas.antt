-- Final uploads of one part have the same bytes of it, whatever changes.
use Rattle.std.proofs.Common.{◌≡◌, ◌⊎◌, ℕ, Bool, true, false, List, [], ◌∷◌, ◌++◌, refl, inl, inr, sym, ap, subst, ◌∙◌}
use Rattle.std.specs.List.{All, Contains, filter, zip}
use Rattle.std.proofs.lemmas.Bool.Decides.{eqb_tells}
use Rattle.std.proofs.lemmas.List.{append-nil}
use Rattle.std.proofs.lemmas.List.Concat.{flat_map-append}
use Rattle.std.proofs.lemmas.List.Elements.{All-head, All-nil, All-tail, All-weaker, Contains-append_cases, Contains-append_left, Contains-append_right}
use Rattle.upload_book.specs.declared.head_row.Kind.{Kind}
use Rattle.upload_book.specs.declared.head_row.Kind.TheVariants.{Plain, Partial, Final}
use Rattle.upload_book.specs.declared.settings.Numbers.{Numbers}
use Rattle.upload_book.specs.Lawful.{IsOfKind, IsSegmentOf, IsUploadOf, ShareParts, joined_in}
use Rattle.upload_book.specs.TenantBook.{Entry, TenantBook, with_kept}
use Rattle.upload_book.specs.Upload.{Upload}
use Rattle.upload_book.proofs.Charge.PriceLemmas.{All-flat_map}

-- a segment with the part whose bytes it has
abbrev Segment : Type 0
Segment = ℕ × List ℕ

-- the segments of one upload with its parts
abbrev pub joined_of : Entry Upload → List (ℕ × List ℕ)
joined_of e = zip e.kept.parts e.kept.segments

-- an upload that has no part has none
pub joined-own : (u : Upload) → u.parts ≡ [] → zip u.parts u.segments ≡ []
joined-own u none = ap (λ parts. zip parts u.segments) none

-- those of an upload behind others stand behind theirs
pub joined-push : (entries : List (Entry Upload)) (e : Entry Upload) → joined_in (entries ++ e ∷ []) ≡ joined_in entries ++ joined_of e
joined-push entries e = flat_map-append joined_of entries (e ∷ []) ∙ ap (λ l. joined_in entries ++ l) (append-nil (joined_of e))

-- one more upload shares the bytes of its parts with those before it, and has one segment's bytes for each part
pub ShareParts-push : (entries : List (Entry Upload)) (e : Entry Upload) → ShareParts entries
    → ((a b : ℕ × List ℕ) → Contains (joined_of e) a → Contains (joined_in entries) b ⊎ Contains (joined_of e) b → a.0 ≡ b.0 → a.1 ≡ b.1)
    → ShareParts (entries ++ e ∷ [])
ShareParts-push entries e shared own a b in_a in_b same =
    elim (Contains-append_cases (joined_in entries) (joined_of e) a (subst (λ l. Contains l a) (joined-push entries e) in_a)) [
      | inr here ↦ own a b here (Contains-append_cases (joined_in entries) (joined_of e) b (subst (λ l. Contains l b) (joined-push entries e) in_b)) same
      | inl before ↦ elim (Contains-append_cases (joined_in entries) (joined_of e) b (subst (λ l. Contains l b) (joined-push entries e) in_b)) [
        | inl both ↦ shared a b before both same
        | inr here ↦ sym (own b a here (inl before) (sym same))
      ]
    ]

-- what is left of uploads has segments that were there
joined-filter : (p : Entry Upload → Bool) (entries : List (Entry Upload)) (a : ℕ × List ℕ) → Contains (joined_in (filter p entries)) a → Contains (joined_in entries) a
joined-filter p [] a there = there
joined-filter p (e ∷ entries) a there = by (p e) refl (joined-filter p entries a) where
  by : (test : Bool) → p e ≡ test → (Contains (joined_in (filter p entries)) a → Contains (joined_in entries) a) → Contains (joined_in (e ∷ entries)) a
  by false is rest = Contains-append_right (joined_of e) (joined_in entries) a (rest (rw is at there))
  by true is rest = elim (Contains-append_cases (joined_of e) (joined_in (filter p entries)) a (rw is at there)) [
    | inl here ↦ Contains-append_left (joined_of e) (joined_in entries) a here
    | inr later ↦ Contains-append_right (joined_of e) (joined_in entries) a (rest later)
  ]

pub ShareParts-filter : (p : Entry Upload → Bool) (entries : List (Entry Upload)) → ShareParts entries → ShareParts (filter p entries)
ShareParts-filter p entries shared a b in_a in_b same =
    shared a b (joined-filter p entries a in_a) (joined-filter p entries b in_b) same

-- a change of an upload that has no part changes no segment of a final one
pub joined-with_kept : (entries : List (Entry Upload)) (id : ℕ) (u : Upload) → u.parts ≡ [] → All (λ (e : Entry Upload). e.id ≡ id → e.kept.parts ≡ []) entries → joined_in (with_kept entries id u) ≡ joined_in entries
joined-with_kept [] id u none own = refl
joined-with_kept (e ∷ entries) id u none own =
    let P : Entry Upload → Type 0 = λ (e : Entry Upload). e.id ≡ id → e.kept.parts ≡ [] in
    let rest : joined_in (with_kept entries id u) ≡ joined_in entries = joined-with_kept entries id u none (All-tail P e entries own) in
    elim (eqb_tells e.id id) [
      | inl same ↦ rw (same.0, rest, none, All-head P e entries own same.1) refl
      | inr differs ↦ rw (differs.0, rest) refl
    ]

pub ShareParts-with_kept : (entries : List (Entry Upload)) (id : ℕ) (u : Upload) → u.parts ≡ [] → All (λ (e : Entry Upload). e.id ≡ id → e.kept.parts ≡ []) entries → ShareParts entries → ShareParts (with_kept entries id u)
ShareParts-with_kept entries id u none own shared a b in_a in_b same =
    let is : joined_in (with_kept entries id u) ≡ joined_in entries = joined-with_kept entries id u none own in
    shared a b (subst (λ l. Contains l a) is in_a) (subst (λ l. Contains l b) is in_b) same

segments-kind : (part : TenantBook) (u : Upload) (kind : Kind) → IsOfKind part u kind → All (λ (s : Segment). IsSegmentOf part s.0 s.1) (zip u.parts u.segments)
segments-kind part u Plain sound = rw sound.parts (All-nil (λ (s : Segment). IsSegmentOf part s.0 s.1))
segments-kind part u Partial sound = rw sound.parts (All-nil (λ (s : Segment). IsSegmentOf part s.0 s.1))
segments-kind part u Final sound = sound.0.same

-- each segment of a final upload is that of its part, where that stands
pub joined-stand : (n : Numbers) (part : TenantBook) → All (λ (e : Entry Upload). IsUploadOf n part e.kept) part.uploads → All (λ (s : Segment). IsSegmentOf part s.0 s.1) (joined_in part.uploads)
joined-stand n part sound =
    All-flat_map (λ (s : Segment). IsSegmentOf part s.0 s.1) joined_of part.uploads
    (All-weaker (λ (e : Entry Upload). IsUploadOf n part e.kept) (λ (e : Entry Upload). All (λ (s : Segment). IsSegmentOf part s.0 s.1) (joined_of e)) (λ e own. segments-kind part e.kept e.kept.kind own.kind) part.uploads sound)
