-- An upload of a lawful part is put back behind those before it.
use Rattle.std.proofs.Common.{◌≡◌, ℕ, zero, suc, ◌+◌, ◌-◌, ◌<◌, ◌≤◌, max, Bool, true, false, ◌&&◌, ◌||◌, cond, eqb, ltb, leb, not, List, [], ◌∷◌, ◌++◌, map, length, get_or, Option, Some, None, IfSome, unwrap_or, refl, inl, inr, sym, ap, ap₂, subst, ◌∙◌, arith, append_assoc, length-append}
use Rattle.std.specs.List.{All, Contains, flat_map, list_all, zip}
use Rattle.std.specs.List.Sorted.{IsStrictlyIncreasing}
use Rattle.std.proofs.lemmas.Bool.{cases_lt}
use Rattle.std.proofs.lemmas.Bool.Decides.{nat_tests}
use Rattle.std.proofs.lemmas.List.{get_or_append_left, get_or_at}
use Rattle.std.proofs.lemmas.List.Concat.{flat_map-append}
use Rattle.std.proofs.lemmas.List.Elements.{All-contains, All-head, All-push, All-tail, All-weaker, Contains-append_left, Contains-push}
use Rattle.std.proofs.lemmas.List.Kept.{AllPairs-from_increasing}
use Rattle.std.proofs.lemmas.Slice.Zip.{length-zip, get_or-zip}
use Rattle.std.proofs.Math.ListN.{get_or-map, length-map}
use Rattle.upload_book.specs.Append.{is_final, is_too_long}
use Rattle.upload_book.specs.Charge.{Source, charge_in, origins, price, sources_of, sum_below}
use Rattle.upload_book.specs.Concat.{is_partial}
use Rattle.upload_book.specs.declared.head_row.Kind.{Kind}
use Rattle.upload_book.specs.declared.head_row.Kind.TheVariants.{Plain, Partial, Final}
use Rattle.upload_book.specs.declared.refusal.Refusal.TheVariants.{Field, TooLong, PartOpen, Uploads, Spent, Quota}
use Rattle.upload_book.specs.declared.settings.Numbers.{Numbers}
use Rattle.upload_book.specs.Lawful.{HasParts, IsOfKind, IsSegmentOf, IsTenantOf, IsUploadOf}
use Rattle.upload_book.specs.Refusal.{first_that_holds}
use Rattle.upload_book.specs.snapshot.Restore.{IsRestorable, ends_rightly, may_be_part, part_with, refusal_with, restore_refusal, restore_tests, sent_back, sent_in, sent_of, upload_back, with_back}
use Rattle.upload_book.specs.snapshot.Snapshot.{segments_kept, upload_kept}
use Rattle.upload_book.specs.Stored.{parts_of}
use Rattle.upload_book.specs.TenantBook.{Entry, TenantBook, kept_in}
use Rattle.upload_book.specs.Upload.{IsComplete, Upload, is_complete, offset_of}
use Rattle.upload_book.proofs.Charge.PriceLemmas.{price-append, price-none, sum_below-le}
use Rattle.upload_book.proofs.Lawful.Entries.{ids_of}
use Rattle.upload_book.proofs.Lawful.FinalLemmas.{kept-push}
use Rattle.upload_book.proofs.Lawful.LawfulAppend.{complete_tells}
use Rattle.upload_book.proofs.Restoring.SegmentsBack.{segments-kept, sent-below, sent-same, sent_back-kept, sources-below}

-- a tenant's part with the first of its uploads alone, and a next id
abbrev pub front : TenantBook → ℕ → List (Entry Upload) → TenantBook
front part next before = record part { uploads = before; next = next }

-- what the first uploads of a part cost
abbrev paid_for : Numbers → TenantBook → List (Entry Upload) → ℕ
paid_for n part before = charge_in n (record part { uploads = before })

-- ---- the upload is the one that was kept

zip-firsts : (ids : List ℕ) (segments : List (List ℕ)) → length segments ≡ length ids → map {A = ℕ × List ℕ} {B = ℕ} (λ s. s.0) (zip ids segments) ≡ ids
zip-firsts [] segments same = refl
zip-firsts (id ∷ ids) [] same = absurd (omega arith)
zip-firsts (id ∷ ids) (s ∷ segments) same = ap (λ rest. id ∷ rest) (zip-firsts ids segments (omega arith))

zip-seconds : (ids : List ℕ) (segments : List (List ℕ)) → length segments ≡ length ids → map {A = ℕ × List ℕ} {B = List ℕ} (λ s. s.1) (zip ids segments) ≡ segments
zip-seconds [] [] same = refl
zip-seconds [] (s ∷ segments) same = absurd (omega arith)
zip-seconds (id ∷ ids) [] same = absurd (omega arith)
zip-seconds (id ∷ ids) (s ∷ segments) same = ap (λ rest. s ∷ rest) (zip-seconds ids segments (omega arith))

parts-kind : (part : TenantBook) (id : ℕ) (u : Upload) (kind : Kind) → IsOfKind part u kind → parts_of kind (map {A = ℕ × List ℕ} {B = ℕ} (λ s. s.0) (zip (origins kind id u.parts) u.segments)) ≡ u.parts
parts-kind part id u Plain sound = sym sound.parts
parts-kind part id u Partial sound = sym sound.parts
parts-kind part id u Final sound = zip-firsts u.parts u.segments sound.0.each

segments-kind : (part : TenantBook) (id : ℕ) (u : Upload) (kind : Kind) → IsOfKind part u kind → map {A = ℕ × List ℕ} {B = List ℕ} (λ s. s.1) (zip (origins kind id u.parts) u.segments) ≡ u.segments
segments-kind part id u Plain sound = zip-seconds (id ∷ []) u.segments sound.segment
segments-kind part id u Partial sound = zip-seconds (id ∷ []) u.segments sound.segment
segments-kind part id u Final sound = zip-seconds u.parts u.segments sound.0.each

upload-kept : (part : TenantBook) (before : List (Entry Upload)) (e : Entry Upload) → IsOfKind part e.kept e.kept.kind → upload_back (upload_kept before e) (sent_of e) ≡ e.kept
upload-kept part before e sound =
    ap₂ (λ (parts : List ℕ) (segments : List (List ℕ)). record e.kept { parts = parts; segments = segments }) (parts-kind part e.id e.kept e.kept.kind sound) (segments-kind part e.id e.kept e.kept.kind sound)

-- ---- it passes the tests

is-complete : (u : Upload) → IsComplete u → is_complete u ≡ true
is-complete u complete = elim (complete_tells u) [ inl both ↦ both.0 | inr open' ↦ absurd (open'.1 complete) ]

both : (a b : Bool) → a ≡ true → b ≡ true → (a && b) ≡ true
both a b first second = rw (first, second) refl

-- one that is no final one may be open
open-own : (complete : Bool) → (complete || true) ≡ true
open-own true = refl
open-own false = refl

whole-kind : (part : TenantBook) (u : Upload) (kind : Kind) → IsOfKind part u kind → (is_complete u || not (is_final kind)) ≡ true
whole-kind part u Plain sound = open-own (is_complete u)
whole-kind part u Partial sound = open-own (is_complete u)
whole-kind part u Final sound = rw (is-complete u sound.1) refl

ends-kind : (n : Numbers) (part : TenantBook) (u : Upload) → IsUploadOf n part u → ends_rightly n u.kind (is_complete u) u.expires ≡ true
ends-kind n part u sound = both _ _ sound.ends (whole-kind part u u.kind sound.kind)

list_all-from : {X : Type 0} (test : X → Bool) (xs : List X) → All (λ x. test x ≡ true) xs → list_all test xs ≡ true
list_all-from test [] all = refl
list_all-from test (x ∷ xs) all = rw (All-head (λ x. test x ≡ true) x xs all) (list_all-from test xs (All-tail (λ x. test x ≡ true) x xs all))

-- where ids ascend, those before an entry are below its
pub before-below : (before after : List (Entry Upload)) (e : Entry Upload) (n : Numbers) (part : TenantBook) → IsTenantOf n part → part.uploads ≡ before ++ e ∷ after → All (λ (a : Entry Upload). a.id < e.id) before
before-below before after e n part sound is = λ k d within.
    let all : List (Entry Upload) = before ++ e ∷ after in
    let long : length all ≡ length before + length (e ∷ after) = length-append before (e ∷ after) in
    let ascending = subst (λ l. IsStrictlyIncreasing (ids_of l)) is sound.ascending in
    let here : (get_or all k d).id ≡ (get_or before k d).id = ap (λ (a : Entry Upload). a.id) (get_or_append_left before (e ∷ after) d k within) in
    let last : (get_or all (length before) d).id ≡ e.id = ap (λ (a : Entry Upload). a.id) (get_or_at before e after d (length before) refl) in
    let at : (i : ℕ) → get_or (ids_of all) i d.id ≡ (get_or all i d).id = λ i. get_or-map (λ (a : Entry Upload). a.id) all i d in
    omega (arith, AllPairs-from_increasing (ids_of all) ascending k (length before) d.id within (omega (arith, length-map all (λ (a : Entry Upload). a.id))), at k, at (length before), here, last)

fits-kept : (n : Numbers) (declared : Option ℕ) (offset : ℕ) → IfSome declared (λ most. (offset ≤ most) × (most ≤ n.max_size)) → offset ≤ n.max_size → is_too_long n (unwrap_or declared n.max_size) offset ≡ false
fits-kept n None offset within size = grind (arith, nat_tests)
fits-kept n (Some most) offset within size =
    let long : offset ≤ most = within.0 in
    let fits : most ≤ n.max_size = within.1 in
    grind (arith, nat_tests)

-- a part of a final upload may be one where fewer uploads stand
part-kept : (part : TenantBook) (next : ℕ) (before after : List (Entry Upload)) (id : ℕ) (segment : List ℕ) → part.uploads ≡ before ++ after → IsSegmentOf part id segment → may_be_part (front part next before) id ≡ true
part-kept part next before after id segment is sound = by (kept_in before id) refl where
  by : (found : Option Upload) → kept_in before id ≡ found → may_be_part (front part next before) id ≡ true
  by None none = rw none refl
  by (Some u) there =
      let stands : kept_in part.uploads id ≡ Some u = ap (λ l. kept_in l id) is ∙ kept-push before after id u there in
      let seen = rw stands at sound in
      rw there (both _ _ (ap is_partial seen.0) (is-complete u seen.1))

parts-kept : (part : TenantBook) (next : ℕ) (before after : List (Entry Upload)) (u : Upload) (kind : Kind) → part.uploads ≡ before ++ after → IsOfKind part u kind → list_all (may_be_part (front part next before)) u.parts ≡ true
parts-kept part next before after u Plain is sound = rw sound.parts refl
parts-kept part next before after u Partial is sound = rw sound.parts refl
parts-kept part next before after u Final is sound = list_all-from (may_be_part (front part next before)) u.parts (λ k d within.
    let parts : HasParts part u = sound.0 in
    let Q : (ℕ × List ℕ) → Type 0 = λ (p : ℕ × List ℕ). IsSegmentOf part p.0 p.1 in
    let in_segments : k < length u.segments = omega (arith, parts.each) in
    let pair = get_or-zip u.parts u.segments k (d, []) within in_segments in
    let segment = subst Q pair (parts.same k (d, []) (omega (arith, length-zip u.parts u.segments))) in
    part-kept part next before after (get_or u.parts k d) (get_or u.segments k []) is segment)

-- terms that are nothing from a number on do not count
sum_below-drop : (a b : ℕ) (f : ℕ → ℕ) → a ≤ b → ((k : ℕ) → a ≤ k → f k ≡ 0) → sum_below a f ≡ sum_below b f
sum_below-drop a zero f less none = let end : a ≡ 0 = omega arith in ap (λ n. sum_below n f) end
sum_below-drop a (suc b) f less none = elim (cases_lt b a) [
  | inl last ↦ let end : a ≡ suc b = omega arith in ap (λ n. sum_below n f) end
  | inr within ↦
      let rest : sum_below a f ≡ sum_below b f = sum_below-drop a b f within none in
      omega (arith, rest, none b within)
]

-- uploads whose segments were sent to ids below two ends cost the same by either
pub charge-end : (n : Numbers) (part : TenantBook) (a b : ℕ) → a ≤ b → All (λ (s : Source). s.origin < a) (flat_map sources_of part.uploads) → charge_in n (record part { next = a }) ≡ charge_in n (record part { next = b })
charge-end n part a b less below =
    sum_below-drop a b (price n.block_size (flat_map sources_of part.uploads)) less (λ k above.
    price-none n.block_size (flat_map sources_of part.uploads) k (λ i d within same. let here : (get_or (flat_map sources_of part.uploads) i d).origin < a = below i d within in omega (arith, same)))

-- the first uploads of a tenant cost no more than with those after them
charge-front : (n : Numbers) (part : TenantBook) (before after : List (Entry Upload)) → paid_for n part before ≤ paid_for n part (before ++ after)
charge-front n part before after =
    sum_below-le part.next (price n.block_size (flat_map sources_of before)) (price n.block_size (flat_map sources_of (before ++ after))) (λ origin l.
    let all : price n.block_size (flat_map sources_of (before ++ after)) origin ≡ max (price n.block_size (flat_map sources_of before) origin) (price n.block_size (flat_map sources_of after) origin) =
    ap (λ l. price n.block_size l origin) (flat_map-append sources_of before after) ∙ price-append n.block_size (flat_map sources_of before) (flat_map sources_of after) origin in
    omega (arith, all))

none-holds : (b c d e f g h : Bool) → b ≡ true → c ≡ false → d ≡ true → e ≡ false → f ≡ false → g ≡ false → h ≡ false
    → first_that_holds ((not b, Field) ∷ (c, TooLong) ∷ (not d, PartOpen) ∷ (e, Uploads) ∷ (f || g, Spent) ∷ (h, Quota) ∷ []) ≡ None
none-holds b c d e f g h ib ic id ie if' ig ih = rw (ib, ic, id, ie, if', ig, ih) refl

-- An upload of a part comes next, behind those before it: the next id is above theirs, and not above its. Its tenant may pay
-- for all, where so much is charged beside.
pub record IsNextBack (n : Numbers) (part : TenantBook) (next : ℕ) (before after : List (Entry Upload)) (e : Entry Upload) (beside : ℕ) : Type 0 where
  pub sound : IsTenantOf n part
  pub all : part.uploads ≡ before ++ e ∷ after
  pub below : All (λ (a : Entry Upload). a.id < next) before
  pub fresh : next ≤ e.id
  pub paid : charge_in n part ≤ part.quota
  pub unspent : beside + charge_in n part ≤ n.last_total

module _ (n : Numbers) (part : TenantBook) (next : ℕ) (before after : List (Entry Upload)) (e : Entry Upload) (beside : ℕ) (can : IsNextBack n part next before after e beside) where
  entry-in : (P : Entry Upload → Type 0) → All P part.uploads → P e
  entry-in P all =
      subst P (get_or_at before e after e (length before) refl) (subst (All P) can.all all (length before) e (omega (arith, length-append before (e ∷ after))))

  pub given : (0 < e.id) × (e.id < part.next)
  given = entry-in (λ e. (0 < e.id) × (e.id < part.next)) can.sound.given

  own : IsUploadOf n part e.kept
  own = entry-in (λ e. IsUploadOf n part e.kept) can.sound.uploads

  older-before : All (λ (a : Entry Upload). All (λ p. p < a.id) a.kept.parts) before
  older-before = λ k d within. subst (λ (a : Entry Upload). All (λ p. p < a.id) a.kept.parts) (get_or_append_left before (e ∷ after) d k within)
      (subst (All (λ (a : Entry Upload). All (λ p. p < a.id) a.kept.parts)) can.all can.sound.later k d (omega (arith, length-append before (e ∷ after))))

  pub earlier : All (λ (a : Entry Upload). a.id < e.id) before
  earlier = before-below before after e n part can.sound can.all

  -- its id was not given before
  pub next-least : next ≤ e.id
  next-least = can.fresh

  -- those before it cost as much by the next id as by the tenant's
  pub before-paid : charge_in n (front part next before) ≡ paid_for n part before
  before-paid = charge-end n (record part { uploads = before }) next part.next (omega (arith, next-least, given.1)) (sources-below before next can.below older-before)

  -- and so they do with it
  pub with-paid : charge_in n (front part (e.id + 1) (before ++ e ∷ [])) ≡ paid_for n part (before ++ e ∷ [])
  with-paid =
      charge-end n (record part { uploads = before ++ e ∷ [] }) (e.id + 1) part.next (omega (arith, given.1))
      (sources-below (before ++ e ∷ []) (e.id + 1) (All-push (λ (a : Entry Upload). a.id < e.id + 1) before e (All-weaker (λ (a : Entry Upload). a.id < e.id) (λ (a : Entry Upload). a.id < e.id + 1) (λ a less. omega arith) before earlier) (omega arith))
      (All-push (λ (a : Entry Upload). All (λ p. p < a.id) a.kept.parts) before e older-before (entry-in (λ (a : Entry Upload). All (λ p. p < a.id) a.kept.parts) can.sound.later)))

  pub more-paid : charge_in n (front part next before) ≤ charge_in n (front part (e.id + 1) (before ++ e ∷ []))
  more-paid = omega (arith, before-paid, with-paid, charge-front n part before (e ∷ []))

  -- all cost no less
  all-paid : charge_in n (front part (e.id + 1) (before ++ e ∷ [])) ≤ charge_in n part
  all-paid =
      let regrouped : before ++ e ∷ [] ++ after ≡ part.uploads = append_assoc before (e ∷ []) after ∙ sym can.all in
      omega (arith, with-paid, charge-front n part (before ++ e ∷ []) after, ap (paid_for n part) regrouped)

  sent-kept : sent_back (sent_in before) (segments_kept (sent_in before) (sent_of e)) ≡ Some (sent_of e)
  sent-kept =
      sent_back-kept (sent_in before) (sent_of e) (λ a b in_a in_b same. sent-same n part can.sound a b (inside a in_a) (inside b in_b) same)
    where
      all : sent_in part.uploads ≡ sent_in before ++ sent_of e ++ sent_in after
      all = ap sent_in can.all ∙ flat_map-append sent_of before (e ∷ after) ∙ sym (append_assoc (sent_in before) (sent_of e) (sent_in after))

      inside : (a : ℕ × List ℕ) → Contains (sent_in before ++ sent_of e) a → Contains (sent_in part.uploads) a
      inside a there = subst (λ l. Contains l a) (sym all) (Contains-append_left (sent_in before ++ sent_of e) (sent_in after) a there)

  -- it may be put back,
  pub asked-kept : IsRestorable (upload_kept before e)
  asked-kept = record {
    segments = segments-kept part (sent_in before) e.id e.kept e.kept.kind own.kind (sent-below before e.id earlier older-before) (entry-in (λ (a : Entry Upload). All (λ p. p < a.id) a.kept.parts) can.sound.later);
    metadata = own.metadata;
    concat = own.concat;
  }

  -- is not refused where it gets the next id,
  pub restore-kept : next ≡ e.id → restore_refusal n (beside + charge_in n (front part next before)) (front part next before) (upload_kept before e) ≡ None
  restore-kept next-is =
      let few : length before < n.uploads = omega (arith, can.sound.few, ap (length {A = Entry Upload}) can.all, length-append before (e ∷ after)) in
      let charged : ℕ = beside + charge_in n (front part next before) in
      ap (λ (other : Bool). cond other (Some Field) (refusal_with n charged (front part next before) (upload_kept before e) (sent_back (sent_in before) (segments_kept (sent_in before) (sent_of e))))) (itself _ _ next-is)
      ∙ ap (refusal_with n charged (front part next before) (upload_kept before e)) sent-kept
      ∙ ap (λ u. first_that_holds (restore_tests n charged (front part next before) e.id u)) (upload-kept part before e own.kind)
      ∙ none-holds _ _ _ _ _ _ _ (ends-kind n part e.kept own)
      (fits-kept n e.kept.declared (offset_of e.kept) own.within own.size)
      (parts-kept part next before (e ∷ after) e.kept e.kept.kind can.all own.kind)
      (not-le _ _ few)
      (at-most _ _ (omega (arith, given.1, can.sound.last)))
      (at-most _ _ (unspent _ _ _ _ _ more-paid all-paid can.unspent))
      (at-most _ _ (omega (arith, all-paid, can.paid)))
    where
      itself : (next id : ℕ) → next ≡ id → not (eqb id next) ≡ false
      itself next id is = grind (arith, nat_tests)

      not-le : (most k : ℕ) → k < most → leb most k ≡ false
      not-le most k less = grind (arith, nat_tests)

      at-most : (most k : ℕ) → k ≤ most → ltb most k ≡ false
      at-most most k less = grind (arith, nat_tests)

      unspent : (base before later all most : ℕ) → before ≤ later → later ≤ all → base + all ≤ most → base + before + (later - before) ≤ most
      unspent base before later all most less part fits = omega arith

  -- and stands there then
  pub part-with : part_with (front part next before) (upload_kept before e) (sent_back (sent_in before) (upload_kept before e).segments) ≡ front part (e.id + 1) (before ++ e ∷ [])
  part-with =
      ap (part_with (front part next before) (upload_kept before e)) sent-kept
      ∙ ap (with_back (front part next before) e.id) (upload-kept part before e own.kind)

  -- the next id is then the least again
  pub next-below : All (λ (a : Entry Upload). a.id < e.id + 1) (before ++ e ∷ [])
  next-below = All-push (λ (a : Entry Upload). a.id < e.id + 1) before e (All-weaker (λ (a : Entry Upload). a.id < e.id) (λ (a : Entry Upload). a.id < e.id + 1) (λ a less. omega arith) before earlier) (omega arith)

  pub least-after : (id : ℕ) → 0 < id → All (λ (a : Entry Upload). a.id < id) (before ++ e ∷ []) → e.id + 1 ≤ id
  least-after id some below =
      let last : e.id < id = All-contains (λ (a : Entry Upload). a.id < id) (before ++ e ∷ []) e below (Contains-push before e) in
      omega arith
