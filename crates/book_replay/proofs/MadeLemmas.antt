-- The test of a change decides whether a book may be asked for it.
use Rattle.std.proofs.Common.{◌≡◌, ℕ, ◌<◌, ◌≤◌, Bool, true, false, ◌&&◌, eqb, leb, ltb, List, [], ◌∷◌, length, Option, Some, None, is_some, refl, ap, codes, arith}
use Rattle.std.specs.Bool.{Decides, IsTrue}
use Rattle.std.specs.List.{All, list_all}
use Rattle.std.proofs.lemmas.Bool.{and_parts, eq-eqb, eqb-true, le-leb, leb-true}
use Rattle.std.proofs.lemmas.Bool.Decides.{Decides-and, Decides-like, Decides-ltb}
use Rattle.std.proofs.lemmas.List.Elements.{All-cons, All-head, All-nil, All-tail}
use Rattle.std.proofs.lemmas.Slice.Eq.{bytes_eq-Decides}
use Rattle.tus_text.specs.Concat.{concat_of}
use Rattle.tus_text.specs.declared.concat.Concat.{Concat}
use Rattle.tus_text.specs.declared.concat.Concat.TheVariants as concat
use Rattle.tus_text.specs.declared.concat.PartPath.{PartPath}
use Rattle.upload_book.specs.Change.{CanBeMade}
use Rattle.upload_book.specs.Create.{new_kind}
use Rattle.upload_book.specs.declared.change.Change.{Change}
use Rattle.upload_book.specs.declared.change.Change.TheVariants as change
use Rattle.upload_book.specs.declared.head_row.Kind.{Kind}
use Rattle.upload_book.specs.declared.head_row.Kind.TheVariants.{Plain, Partial, Final}
use Rattle.upload_book.specs.declared.restored.Restored.{Restored}
use Rattle.upload_book.specs.declared.restored.Restored.TheVariants as piece
use Rattle.upload_book.specs.Lawful.{IsConcatText, is_kept_metadata}
use Rattle.upload_book.specs.NewFinal.{NewFinal}
use Rattle.upload_book.specs.NewUpload.{NewUpload}
use Rattle.upload_book.specs.snapshot.Restore.{CanBePutBack, HasSegments, IsRestorable}
use Rattle.upload_book.specs.snapshot.Restored.{RestoredSegment, RestoredUpload}
use Rattle.book_replay.specs.Made.{can_be_made, can_be_put_back, has_segments, is_concat_text, is_earlier, is_final, is_own, is_restorable, is_upload, names_parts}

names-decides : (read : Option Concat) → Decides (names_parts read) ((parts : List PartPath) × (read ≡ Some (concat.Final parts)))
names-decides (Some (concat.Final parts)) = (λ e. (parts, refl), λ h. refl)
names-decides (Some concat.Partial) = (λ e. absurd (cc), λ h. let told = h.1 in absurd (cc))
names-decides None = (λ e. absurd (cc), λ h. let told = h.1 in absurd (cc))

text-decides : (kind : Kind) (text : List ℕ) → Decides (is_concat_text kind text) (IsConcatText kind text)
text-decides Plain text = bytes_eq-Decides text []
text-decides Partial text = bytes_eq-Decides text (codes "partial")
text-decides Final text = names-decides (concat_of text)

kept-decides : (text : List ℕ) → Decides (is_kept_metadata text) (IsTrue (is_kept_metadata text))
kept-decides text = (λ e. e, λ e. e)

leb-decides : (a b : ℕ) → Decides (leb a b) (a ≤ b)
leb-decides a b = (leb-true a b, le-leb a b)

upload-decides : (new : NewUpload) → Decides (is_upload new) (IsTrue (is_kept_metadata new.metadata) × IsConcatText (new_kind new.partial) new.concat)
upload-decides new = Decides-and _ _ (kept-decides new.metadata) (text-decides (new_kind new.partial) new.concat)

final-decides : (new : NewFinal) → Decides (is_final new) ((0 < length new.parts) × (length new.parts ≤ 32) × IsTrue (is_kept_metadata new.metadata) × IsConcatText Final new.concat)
final-decides new =
    Decides-like (is_final new) (λ h. (h.0.0.0, h.0.0.1, h.0.1, h.1)) (λ h. (((h.0, h.1), h.2), h.3))
    (Decides-and _ _ (Decides-and _ _ (Decides-and _ _ (Decides-ltb 0 (length new.parts)) (leb-decides (length new.parts) 32)) (kept-decides new.metadata)) (text-decides Final new.concat))

-- a test of each element
list_all-decides : {X : Type 0} (test : X → Bool) (P : X → Type 0) → ((x : X) → Decides (test x) (P x)) → (xs : List X) → Decides (list_all test xs) (All P xs)
list_all-decides test P each [] = (λ e. All-nil P, λ h. refl)
list_all-decides test P each (x ∷ xs) =
    Decides-like (list_all test (x ∷ xs)) (λ h. All-cons P x xs h.0 h.1) (λ h. (All-head P x xs h, All-tail P x xs h))
    (Decides-and (test x) (list_all test xs) (each x) (list_all-decides test P each xs))

-- what the first segment has
abbrev first_origin : List RestoredSegment → ℕ
first_origin [] = 0
first_origin (s ∷ segments) = s.origin

abbrev first_bytes : List RestoredSegment → Option (List ℕ)
first_bytes [] = None
first_bytes (s ∷ segments) = s.bytes

-- the one segment of an upload of its own
own-decides : (id : ℕ) (segments : List RestoredSegment) → Decides (eqb (length segments) 1 && list_all (is_own id) segments) ((bytes : List ℕ) × (segments ≡ record { origin = id; bytes = Some bytes } ∷ []))
own-decides id [] = (λ e. absurd (cc), λ h. let is = h.1 in absurd (cc))
own-decides id (s ∷ t ∷ segments) = (λ e. absurd (let two = eqb-true (length (s ∷ t ∷ segments)) 1 (and_parts _ _ e).0 in omega (arith, two)), λ h. let is = h.1 in absurd (cc))
own-decides id (s ∷ []) = by s.origin s.bytes where
  by : (origin : ℕ) (brought : Option (List ℕ))
      → Decides (eqb origin id && is_some brought && true) ((bytes : List ℕ) × ((let one : List RestoredSegment = record { origin = origin; bytes = brought } ∷ [] in one) ≡ record { origin = id; bytes = Some bytes } ∷ []))
  by origin None = (λ e. absurd (let none : false ≡ true = (and_parts (eqb origin id) false (and_parts (eqb origin id && false) true e).0).1 in cc), λ h. let is : (let none : Option (List ℕ) = None in none) ≡ Some h.0 = ap first_bytes h.1 in absurd (cc))
  by origin (Some bytes) = (
    λ e. (bytes, ap (λ (o : ℕ). record { origin = o; bytes = Some bytes } ∷ []) (eqb-true origin id (and_parts _ _ (and_parts _ _ e).0).0)),
    λ h. (let same : origin ≡ id = ap first_origin h.1 in rw (eq-eqb origin id same) refl),
  )

-- the segments of a final one
earlier-decides : (id : ℕ) (segments : List RestoredSegment) → Decides (list_all (is_earlier id) segments) (All (λ (s : RestoredSegment). (0 < s.origin) × (s.origin < id)) segments)
earlier-decides id segments = list_all-decides (is_earlier id) (λ (s : RestoredSegment). (0 < s.origin) × (s.origin < id)) (λ s. Decides-and _ _ (Decides-ltb 0 s.origin) (Decides-ltb s.origin id)) segments

segments-decide : (kind : Kind) (id : ℕ) (segments : List RestoredSegment) → Decides (has_segments kind id segments) (HasSegments kind id segments)
segments-decide Plain id segments = own-decides id segments
segments-decide Partial id segments = own-decides id segments
segments-decide Final id segments =
    Decides-like (has_segments Final id segments) (λ h. (h.0.0, h.0.1, h.1)) (λ h. ((h.0, h.1), h.2))
    (Decides-and _ _ (Decides-and _ _ (Decides-ltb 0 (length segments)) (leb-decides (length segments) 32)) (earlier-decides id segments))

restorable-decides : (r : RestoredUpload) → Decides (is_restorable r) (IsRestorable r)
restorable-decides r =
    Decides-like (is_restorable r) (λ h. record { segments = h.0.0; metadata = h.0.1; concat = h.1 }) (λ h. ((h.segments, h.metadata), h.concat))
    (Decides-and _ _ (Decides-and _ _ (segments-decide r.kind r.id r.segments) (kept-decides r.metadata)) (text-decides r.kind r.concat))

piece-decides : (tenants : ℕ) (restored : Restored) → Decides (can_be_put_back tenants restored) (CanBePutBack tenants restored)
piece-decides tenants (piece.Upload tenant r) = Decides-and (ltb tenant tenants) (is_restorable r) (Decides-ltb tenant tenants) (restorable-decides r)
piece-decides tenants (piece.Next tenant next) = Decides-ltb tenant tenants
piece-decides tenants (piece.Totals released) = (λ e. tt, λ h. refl)

pub made-decides : (tenants : ℕ) (change : Change) → Decides (can_be_made tenants change) (CanBeMade tenants change)
made-decides tenants (change.Create tenant new first) =
    Decides-like (can_be_made tenants (change.Create tenant new first)) (λ h. (h.0, h.1.0, h.1.1)) (λ h. (h.0, (h.1, h.2)))
    (Decides-and (ltb tenant tenants) (is_upload new) (Decides-ltb tenant tenants) (upload-decides new))
made-decides tenants (change.Append name chunk) = (λ e. tt, λ h. refl)
made-decides tenants (change.Concat tenant new) =
    Decides-like (can_be_made tenants (change.Concat tenant new)) (λ h. (h.0, h.1.0, h.1.1, h.1.2, h.1.3)) (λ h. (h.0, (h.1, h.2, h.3, h.4)))
    (Decides-and (ltb tenant tenants) (is_final new) (Decides-ltb tenant tenants) (final-decides new))
made-decides tenants (change.Terminate name) = (λ e. tt, λ h. refl)
made-decides tenants change.Sweep = (λ e. tt, λ h. refl)
made-decides tenants (change.Restore restored) = piece-decides tenants restored
