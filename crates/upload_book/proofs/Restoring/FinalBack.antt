-- A final upload that is put back, in the plain book: what it costs, and why it is refused.
use Rattle.std.proofs.Common.{◌≡◌, ℕ, ◌+◌, ◌-◌, ◌<◌, ◌≤◌, max, Bool, true, false, ◌&&◌, ◌||◌, cond, eqb, ltb, not, List, [], ◌∷◌, ◌++◌, map, length, Option, Some, None, is_some, unwrap_or, refl, inl, inr, sym, ap, ap₂, subst, ◌∙◌, arith, append_assoc, append-nil}
use Rattle.std.specs.List.{All, flat_map, list_all}
use Rattle.std.proofs.lemmas.Bool.{eqb-true}
use Rattle.std.proofs.lemmas.Bool.Decides.{eqb_tells, nat_tests}
use Rattle.std.proofs.lemmas.List.{map-append}
use Rattle.std.proofs.lemmas.List.Concat.{flat_map-append}
use Rattle.std.proofs.lemmas.List.Elements.{All-head, All-tail}
use Rattle.std.proofs.lemmas.List.Sums.{sum_by-cons}
use Rattle.std.proofs.Math.ListN.{length-append}
use Rattle.block_bodies.specs.Bodies.{blocks_for}
use Rattle.upload_book.specs.Account.{account_in}
use Rattle.upload_book.specs.Append.{is_too_long}
use Rattle.upload_book.specs.Charge.{Source, charge_in, charge_of, price, sources_of}
use Rattle.upload_book.specs.declared.head_row.Kind.{Kind}
use Rattle.upload_book.specs.declared.head_row.Kind.TheVariants.{Final}
use Rattle.upload_book.specs.declared.refusal.Refusal.{Refusal}
use Rattle.upload_book.specs.declared.refusal.Refusal.TheVariants.{Field, TooLong, PartOpen, Uploads, Spent, Quota}
use Rattle.upload_book.specs.declared.settings.Numbers.{Numbers}
use Rattle.upload_book.specs.inside.FinalBack.{brought_blocks, brought_in, final_tests, left_of, left_with, limits_of, sent_len}
use Rattle.upload_book.specs.Lawful.{IsTenantOf}
use Rattle.upload_book.specs.Refusal.{first_that_holds}
use Rattle.upload_book.specs.snapshot.Restore.{HasSegments, bytes_back, bytes_from, ends_rightly, may_be_part, restore_tests, sent_back, sent_in, sent_of, upload_back, with_back}
use Rattle.upload_book.specs.snapshot.Restored.{RestoredSegment, RestoredUpload}
use Rattle.upload_book.specs.Stored.{parts_of}
use Rattle.upload_book.specs.TenantBook.{Entry, TenantBook}
use Rattle.upload_book.specs.Upload.{Upload, is_complete, is_reached, offset_of}
use Rattle.upload_book.proofs.Charge.PriceLemmas.{price-append, sum_of_one}
use Rattle.upload_book.proofs.Charge.SumsBelow.{sum_below-add, sum_below-same}
use Rattle.upload_book.proofs.Restoring.LawfulBack.{final-complete, charge-next, sent-first, zip-sent}

-- ---- what segments cost

-- a segment as it is paid
abbrev source : ℕ × List ℕ → Source
source s = record { origin = s.0; len = length s.1 }

abbrev sources : List (ℕ × List ℕ) → List Source
sources sent = map {A = ℕ × List ℕ} {B = Source} source sent

-- those of uploads
sources-sent : (entries : List (Entry Upload)) → flat_map sources_of entries ≡ sources (sent_in entries)
sources-sent [] = refl
sources-sent (e ∷ entries) = ap (λ (rest : List Source). sources_of e ++ rest) (sources-sent entries) ∙ sym (map-append source (sent_of e) (sent_in entries))

-- where none stands of an origin it costs nothing, and else at least what the first costs
price-absent : (size : ℕ) (standing : List (ℕ × List ℕ)) (origin : ℕ) → bytes_from standing origin ≡ None → price size (sources standing) origin ≡ 0
price-absent size [] origin none = refl
price-absent size (s ∷ standing) origin none = elim (eqb_tells s.0 origin) [
  | inl same ↦ absurd (let some = rw same.0 at none in cc)
  | inr differs ↦ rw differs.0 (price-absent size standing origin (rw differs.0 at none))
]

price-stands : (size : ℕ) (standing : List (ℕ × List ℕ)) (origin : ℕ) (bytes : List ℕ) → bytes_from standing origin ≡ Some bytes → blocks_for size (length bytes) ≤ price size (sources standing) origin
price-stands size [] origin bytes is = absurd (cc)
price-stands size (s ∷ standing) origin bytes is = elim (eqb_tells s.0 origin) [
  | inl same ↦
      let content : s.1 ≡ bytes = (let some = rw same.0 at is in cc) in
      rw same.0 (omega (arith, ap (λ (b : List ℕ). blocks_for size (length b)) content))
  | inr differs ↦ rw differs.0 (price-stands size standing origin bytes (rw differs.0 at is))
]

-- one more at the end counts where it is dearer
price-push : (size : ℕ) (standing : List (ℕ × List ℕ)) (s : ℕ × List ℕ) (origin : ℕ) → price size (sources (standing ++ s ∷ [])) origin ≡ max (price size (sources standing) origin) (cond (eqb s.0 origin) (max (blocks_for size (length s.1)) 0) 0)
price-push size standing s origin = ap (λ (l : List Source). price size l origin) (map-append source standing (s ∷ [])) ∙ price-append size (sources standing) (source s ∷ []) origin

-- bytes that are brought are paid,
charge-brought : (size end : ℕ) (standing : List (ℕ × List ℕ)) (origin : ℕ) (bytes : List ℕ) → origin < end → bytes_from standing origin ≡ None
    → charge_of size end (sources (standing ++ (origin, bytes) ∷ [])) ≡ charge_of size end (sources standing) + blocks_for size (length bytes)
charge-brought size end standing origin bytes within none =
    let blocks : ℕ = blocks_for size (length bytes) in
    sum_below-add end (price size (sources (standing ++ (origin, bytes) ∷ []))) (price size (sources standing)) (λ o. cond (eqb origin o) blocks 0)
    (λ o less. price-push size standing (origin, bytes) o ∙ each o blocks _ (λ same. ap (price size (sources standing)) (sym same) ∙ price-absent size standing origin none))
    ∙ ap (λ (n : ℕ). charge_of size end (sources standing) + n) (sum_of_one end origin blocks within)
  where
    each : (o blocks r : ℕ) → (origin ≡ o → r ≡ 0) → max r (cond (eqb origin o) (max blocks 0) 0) ≡ r + cond (eqb origin o) blocks 0
    each o blocks r none = elim (eqb_tells origin o) [
      | inl same ↦ rw same.0 (omega (arith, none same.1))
      | inr differs ↦ rw differs.0 (omega arith)
    ]

-- and those that stand are paid already
charge-stands : (size end : ℕ) (standing : List (ℕ × List ℕ)) (origin : ℕ) (bytes : List ℕ) → bytes_from standing origin ≡ Some bytes → charge_of size end (sources (standing ++ (origin, bytes) ∷ [])) ≡ charge_of size end (sources standing)
charge-stands size end standing origin bytes is =
    sum_below-same end (price size (sources (standing ++ (origin, bytes) ∷ []))) (price size (sources standing))
    (λ o less. price-push size standing (origin, bytes) o ∙ each o (blocks_for size (length bytes)) (price size (sources standing) o) (λ same. subst (λ (o : ℕ). blocks_for size (length bytes) ≤ price size (sources standing) o) same (price-stands size standing origin bytes is)))
  where
    each : (o blocks r : ℕ) → (origin ≡ o → blocks ≤ r) → max r (cond (eqb origin o) (max blocks 0) 0) ≡ r
    each o blocks r most = elim (eqb_tells origin o) [
      | inl same ↦ rw same.0 (omega (arith, most same.1))
      | inr differs ↦ rw differs.0 (omega arith)
    ]

-- so segments cost what they bring
charge-sent : (size end : ℕ) (standing : List (ℕ × List ℕ)) (segments : List RestoredSegment) (sent : List (ℕ × List ℕ)) → sent_back standing segments ≡ Some sent → All (λ (s : RestoredSegment). s.origin < end) segments
    → charge_of size end (sources (standing ++ sent)) ≡ charge_of size end (sources standing) + brought_in size segments
charge-sent size end standing [] sent is within =
    let none : sent ≡ [] = (cc) in
    ap (λ (l : List (ℕ × List ℕ)). charge_of size end (sources (standing ++ l))) none ∙ ap (λ (l : List (ℕ × List ℕ)). charge_of size end (sources l)) (append-nil standing) ∙ omega arith
charge-sent size end standing (s ∷ segments) sent is within =
    let first = sent-first standing s segments sent is in
    let more : List (ℕ × List ℕ) = standing ++ (s.origin, first.bytes) ∷ [] in
    let all : standing ++ sent ≡ more ++ first.others = ap (λ (l : List (ℕ × List ℕ)). standing ++ l) first.is ∙ sym (append_assoc standing ((s.origin, first.bytes) ∷ []) first.others) in
    let rest = charge-sent size end more segments first.others first.rest (All-tail (λ (s : RestoredSegment). s.origin < end) s segments within) in
    let here = one first.bytes (bytes_from standing s.origin) refl s.bytes refl first.found in
    let sum : brought_in size (s ∷ segments) ≡ brought_blocks size s + brought_in size segments = sum_by-cons (brought_blocks size) s segments in
    ap (λ (l : List (ℕ × List ℕ)). charge_of size end (sources l)) all ∙ omega (arith, rest, here, sum)
  where
    one : (bytes : List ℕ) (found : Option (List ℕ)) → bytes_from standing s.origin ≡ found → (brought : Option (List ℕ)) → s.bytes ≡ brought → bytes_back (bytes_from standing s.origin) s.bytes ≡ Some bytes
        → charge_of size end (sources (standing ++ (s.origin, bytes) ∷ [])) ≡ charge_of size end (sources standing) + brought_blocks size s
    one bytes None none None lacks back = absurd (let never = rw (none, lacks) at back in cc)
    one bytes None none (Some b) brings back =
        let same : b ≡ bytes = (let some = rw (none, brings) at back in cc) in
        rw brings (charge-brought size end standing s.origin bytes (All-head (λ (s : RestoredSegment). s.origin < end) s segments within) none ∙ ap (λ (b : List ℕ). charge_of size end (sources standing) + blocks_for size (length b)) (sym same))
    one bytes (Some b) stands None lacks back =
        let same : b ≡ bytes = (let some = rw (stands, lacks) at back in cc) in
        rw lacks (charge-stands size end standing s.origin bytes (stands ∙ ap Some same) ∙ omega arith)
    one bytes (Some b) stands (Some again) brings back = absurd (let never = rw (stands, brings) at back in cc)

-- ---- the upload

-- its parts are the origins
origins-sent : (standing : List (ℕ × List ℕ)) (segments : List RestoredSegment) (sent : List (ℕ × List ℕ)) → sent_back standing segments ≡ Some sent → map {A = ℕ × List ℕ} {B = ℕ} (λ s. s.0) sent ≡ map {A = RestoredSegment} {B = ℕ} (λ s. s.origin) segments
origins-sent standing [] sent is = let none : sent ≡ [] = (cc) in ap (map {A = ℕ × List ℕ} {B = ℕ} (λ s. s.0)) none
origins-sent standing (s ∷ segments) sent is =
    let first = sent-first standing s segments sent is in
    ap (map {A = ℕ × List ℕ} {B = ℕ} (λ s. s.0)) first.is ∙ ap (λ (rest : List ℕ). s.origin ∷ rest) (origins-sent (standing ++ (s.origin, first.bytes) ∷ []) segments first.others first.rest)

all-mapped : {X Y : Type 0} (f : X → Y) (test : Y → Bool) (xs : List X) → list_all test (map f xs) ≡ list_all (λ x. test (f x)) xs
all-mapped f test [] = refl
all-mapped f test (x ∷ xs) = ap (λ (b : Bool). test (f x) && b) (all-mapped f test xs)

-- it has as many bytes as its segments together
offset-sent : (sent : List (ℕ × List ℕ)) → length (flat_map (λ (segment : List ℕ). segment) (map {A = ℕ × List ℕ} {B = List ℕ} (λ s. s.1) sent)) ≡ sent_len sent
offset-sent [] = refl
offset-sent (s ∷ sent) =
    length-append s.1 (flat_map (λ (segment : List ℕ). segment) (map {A = ℕ × List ℕ} {B = List ℕ} (λ s. s.1) sent)) ∙ ap (λ (n : ℕ). length s.1 + n) (offset-sent sent) ∙ sym (sum_by-cons (λ (s : ℕ × List ℕ). length s.1) s sent)

-- one that has all bytes of its length has so many
pub complete-is : (declared : Option ℕ) (len : ℕ) → is_reached declared len ≡ true → declared ≡ Some len
complete-is None len whole = absurd (cc)
complete-is (Some most) len whole = ap Some (eqb-true most len whole)

module _ (n : Numbers) (charged : ℕ) (part : TenantBook) (r : RestoredUpload) (sent : List (ℕ × List ℕ)) (sound : IsTenantOf n part) (final : r.kind ≡ Final) (form : HasSegments Final r.id r.segments) (next : part.next ≤ r.id) (had : sent_back (sent_in part.uploads) r.segments ≡ Some sent) where
  abbrev u : Upload
  u = upload_back r sent

  abbrev added : ℕ
  added = brought_in n.block_size r.segments

  parts-origins : u.parts ≡ map {A = RestoredSegment} {B = ℕ} (λ s. s.origin) r.segments
  parts-origins = ap (λ (kind : Kind). parts_of kind (map {A = ℕ × List ℕ} {B = ℕ} (λ s. s.0) sent)) final ∙ origins-sent (sent_in part.uploads) r.segments sent had

  -- its segments
  segments-back : sent_of (record { id = r.id; kept = u }) ≡ sent
  segments-back =
      ap (λ (kind : Kind). sent_of (record { id = r.id; kept = upload_back (record r { kind = kind }) sent })) final ∙ zip-sent sent

  -- its tenant pays for what it brings
  pub charge-final : charge_in n (with_back part r.id u) ≡ charge_in n part + added
  charge-final =
      let e : Entry Upload = record { id = r.id; kept = u } in
      let within : All (λ (s : RestoredSegment). s.origin < r.id + 1) r.segments = λ k d inside. (let older = (form.2 k d inside).1 in omega (arith, older)) in
      let all : flat_map sources_of (part.uploads ++ e ∷ []) ≡ sources (sent_in part.uploads ++ sent) =
      flat_map-append sources_of part.uploads (e ∷ []) ∙ ap₂ (λ (a b : List Source). a ++ b) (sources-sent part.uploads) (append-nil (sources_of e) ∙ ap sources segments-back) ∙ sym (map-append source (sent_in part.uploads) sent) in
      ap (charge_of n.block_size (r.id + 1)) all ∙ charge-sent n.block_size (r.id + 1) (sent_in part.uploads) r.segments sent had within
      ∙ ap (λ (paid : ℕ). paid + added) (ap (charge_of n.block_size (r.id + 1)) (sym (sources-sent part.uploads)) ∙ charge-next n part (r.id + 1) (omega (arith, next)) sound)

  pub offset-back : offset_of u ≡ sent_len sent
  offset-back = offset-sent sent

  -- ---- its tests

  reached-left : (declared : Option ℕ) (len : ℕ) → is_reached (left_of declared len) 0 ≡ is_reached declared len
  reached-left None len = refl
  reached-left (Some most) len = grind (arith, nat_tests)

  left-some : (limit used : ℕ) → not (is_some (left_of (Some limit) used)) ≡ ltb limit used
  left-some limit used = grind (arith, nat_tests)

  abbrev tests_at : Bool → Bool → Bool → Bool → Bool → Bool → Bool → List (Bool × Refusal)
  tests_at ends long parts full last total quota = (not ends, Field) ∷ (long, TooLong) ∷ (not parts, PartOpen) ∷ (full, Uploads) ∷ (last || total, Spent) ∷ (quota, Quota) ∷ []

  same-tests : (ends ends' long long' parts parts' full last total total' quota quota' : Bool) → ends ≡ ends' → (ends' ≡ true → long ≡ long') → parts ≡ parts' → total ≡ total' → quota ≡ quota'
      → first_that_holds (tests_at ends long parts full last total quota) ≡ first_that_holds (tests_at ends' long' parts' full last total' quota')
  same-tests ends false long long' parts parts' full last total total' quota quota' same longer all spent paid = rw same refl
  same-tests ends true long long' parts parts' full last total total' quota quota' same longer all spent paid = rw (same, longer refl, all, spent, paid) refl

  whole-length : (declared : Option ℕ) (len : ℕ) → is_reached declared len ≡ true → ltb n.max_size (unwrap_or declared n.max_size) ≡ is_too_long n (unwrap_or declared n.max_size) len
  whole-length None len whole = absurd (cc)
  whole-length (Some most) len whole = grind (arith, nat_tests)

  pub tests-final : charge_in n part ≤ part.quota → charged ≤ n.last_total
      → first_that_holds (final_tests n part r (left_with (limits_of n (account_in n part charged) r.declared) (sent_len sent) added)) ≡ first_that_holds (restore_tests n charged part r.id u)
  tests-final paid unspent =
      let after : ℕ = charge_in n (with_back part r.id u) in
      let ends : ends_rightly n r.kind (is_reached (left_of r.declared (sent_len sent)) 0) r.expires ≡ ends_rightly n r.kind (is_complete u) r.expires =
      ap (λ (whole : Bool). ends_rightly n r.kind whole r.expires) (reached-left r.declared (sent_len sent) ∙ ap (is_reached r.declared) (sym offset-back)) in
      let may : list_all (λ (s : RestoredSegment). may_be_part part s.origin) r.segments ≡ list_all (may_be_part part) u.parts =
      sym (ap (list_all (may_be_part part)) parts-origins ∙ all-mapped (λ (s : RestoredSegment). s.origin) (may_be_part part) r.segments) in
      let total : ltb (n.last_total - charged) added ≡ ltb n.last_total (charged + (after - charge_in n part)) = over_total _ _ _ _ _ unspent charge-final in
      let quota : ltb (part.quota - charge_in n part) added ≡ ltb part.quota after = over_quota _ _ _ _ paid charge-final in
      same-tests _ _ _ _ _ _ _ _ _ _ _ _ ends longer may (left-some (n.last_total - charged) added ∙ total) (left-some (part.quota - charge_in n part) added ∙ quota)
    where
      over_total : (last charged before after added : ℕ) → charged ≤ last → after ≡ before + added → ltb (last - charged) added ≡ ltb last (charged + (after - before))
      over_total last charged before after added less is = grind (arith, nat_tests)

      over_quota : (quota before after added : ℕ) → before ≤ quota → after ≡ before + added → ltb (quota - before) added ≡ ltb quota after
      over_quota quota before after added less is = grind (arith, nat_tests)

      complete-final : ends_rightly n r.kind (is_complete u) r.expires ≡ true → is_reached r.declared (offset_of u) ≡ true
      complete-final ends = final-complete n (is_complete u) r.expires (subst (λ (kind : Kind). ends_rightly n kind (is_complete u) r.expires ≡ true) final ends)

      longer : ends_rightly n r.kind (is_complete u) r.expires ≡ true → ltb n.max_size (unwrap_or r.declared n.max_size) ≡ is_too_long n (unwrap_or r.declared n.max_size) (offset_of u)
      longer ends = whole-length r.declared (offset_of u) (complete-final ends)
