-- Whatever is put back, a lawful book stays lawful.
use Rattle.std.proofs.Common.{◌≡◌, ◌≢◌, ◌⊎◌, ℕ, suc, ◌+◌, ◌-◌, ◌<◌, ◌≤◌, Bool, true, false, ◌||◌, eqb, ltb, leb, not, List, [], ◌∷◌, ◌++◌, map, length, get_or, Option, Some, None, IfSome, unwrap_or, true≢false, refl, inl, inr, sym, ap, subst, ◌∙◌, arith, append_assoc}
use Rattle.std.specs.List.{All, Contains, list_all, zip}
use Rattle.std.specs.Option.{option_and_then, option_map}
use Rattle.std.proofs.lemmas.Bool.{and_parts, eqb-true, leb-false, ltb-false, not-false}
use Rattle.std.proofs.lemmas.Bool.Decides.{eqb_tells}
use Rattle.std.proofs.lemmas.List.{append-nil}
use Rattle.std.proofs.lemmas.List.Elements.{All-cons, All-head, All-map, All-nil, All-tail, All-weaker, Contains-append_cases, Contains-append_left, Contains-append_right, Contains-get_or}
use Rattle.std.proofs.Math.ListN.{get_or-map, length-map}
use Rattle.upload_book.specs.Append.{is_final, is_too_long}
use Rattle.upload_book.specs.Charge.{charge_in, origins}
use Rattle.upload_book.specs.Concat.{is_partial}
use Rattle.upload_book.specs.declared.head_row.Kind.{Kind}
use Rattle.upload_book.specs.declared.head_row.Kind.TheVariants.{Plain, Partial, Final}
use Rattle.upload_book.specs.declared.refusal.Refusal.{Refusal}
use Rattle.upload_book.specs.declared.settings.Numbers.{Numbers}
use Rattle.upload_book.specs.Expiry.{may_end}
use Rattle.upload_book.specs.Lawful.{HasParts, IsGivenIn, IsLawful, IsOfKind, IsSegmentOf, IsTenantOf, IsUploadOf, IsWhole, joined_in}
use Rattle.upload_book.specs.PlainBook.{PlainBook, tenant_book, with_tenant_book}
use Rattle.upload_book.specs.Refusal.{first_that_holds}
use Rattle.upload_book.specs.snapshot.Restore.{CanBePutBack, HasSegments, IsRestorable, book_after_piece, book_with, bytes_back, bytes_from, charged_with, ends_rightly, may_be_part, next_tests, part_with, piece_refusal, refusal_with, restore_refusal, restore_tests, sent_back, sent_in, sent_of, totals_tests, upload_back, with_back}
use Rattle.upload_book.specs.declared.restored.Restored.TheVariants as piece
use Rattle.upload_book.specs.declared.restored.Restored.{Restored}
use Rattle.upload_book.specs.snapshot.Restored.{RestoredSegment, RestoredUpload}
use Rattle.upload_book.specs.Stored.{parts_of}
use Rattle.upload_book.specs.TenantBook.{Entry, TenantBook, kept_in, opening_part, with_next}
use Rattle.upload_book.specs.Upload.{IsComplete, Upload, content_of, is_complete, offset_of}
use Rattle.upload_book.proofs.Charge.ChargeLemmas.{sources-given}
use Rattle.upload_book.proofs.Charge.InUse.{Contains-cases, Contains-first, Contains-later, Contains-none}
use Rattle.upload_book.proofs.Lawful.Entries.{kept_in-All, kept_in-contains, kept_in-push}
use Rattle.upload_book.proofs.Lawful.FirstRefusal.{test-passed}
use Rattle.upload_book.proofs.Lawful.LawfulAppend.{ends_within}
use Rattle.upload_book.proofs.Lawful.LawfulConcat.{complete-from_test}
use Rattle.upload_book.proofs.Lawful.LawfulSteps.{HasSharedParts, HasSharedParts-none, IsLawful-with_tenant_book, IsLawful-with_tenant_book-same, IsTenantOf-with_new, IsUploadOf-beside}
use Rattle.upload_book.proofs.Restoring.SegmentsBack.{AreSame, own-segment, sent-same}
use Rattle.upload_book.proofs.Restoring.UploadsBack.{charge-end}
use Rattle.upload_book.proofs.Store.Pieces.{flat_map-contains}

-- a segment with its origin
abbrev Segment : Type 0
Segment = ℕ × List ℕ

-- ---- the segments that are put back

-- what the first of several segments is, and the others
pub record IsSentFirst (standing : List (ℕ × List ℕ)) (s : RestoredSegment) (segments : List RestoredSegment) (sent : List (ℕ × List ℕ)) : Type 0 where
  pub bytes : List ℕ
  pub others : List (ℕ × List ℕ)
  pub found : bytes_back (bytes_from standing s.origin) s.bytes ≡ Some bytes
  pub rest : sent_back (standing ++ (s.origin, bytes) ∷ []) segments ≡ Some others
  pub is : sent ≡ (s.origin, bytes) ∷ others

pub sent-first : (standing : List (ℕ × List ℕ)) (s : RestoredSegment) (segments : List RestoredSegment) (sent : List (ℕ × List ℕ)) → sent_back standing (s ∷ segments) ≡ Some sent → IsSentFirst standing s segments sent
sent-first standing s segments sent = by (bytes_back (bytes_from standing s.origin) s.bytes) refl where
  others_of : (bytes : List ℕ) → bytes_back (bytes_from standing s.origin) s.bytes ≡ Some bytes → (rest : Option (List Segment)) → sent_back (standing ++ (s.origin, bytes) ∷ []) segments ≡ rest
      → option_map (λ (others : List Segment). (s.origin, bytes) ∷ others) rest ≡ Some sent → IsSentFirst standing s segments sent
  others_of bytes found None none is = absurd (cc)
  others_of bytes found (Some others) some is =
      let same : sent ≡ (s.origin, bytes) ∷ others = (cc) in record { bytes = bytes; others = others; found = found; rest = some; is = same }

  by : (found : Option (List ℕ)) → bytes_back (bytes_from standing s.origin) s.bytes ≡ found
      → option_and_then (λ (bytes : List ℕ). option_map (λ (others : List Segment). (s.origin, bytes) ∷ others) (sent_back (standing ++ (s.origin, bytes) ∷ []) segments)) (bytes_back (bytes_from standing s.origin) s.bytes) ≡ Some sent
      → IsSentFirst standing s segments sent
  by None none is = absurd (let never = rw none at is in cc)
  by (Some bytes) found is = others_of bytes found (sent_back (standing ++ (s.origin, bytes) ∷ []) segments) refl (rw found at is)

-- there is one for each
sent-length : (standing : List Segment) (segments : List RestoredSegment) (sent : List Segment) → sent_back standing segments ≡ Some sent → length sent ≡ length segments
sent-length standing [] sent is = let none : sent ≡ [] = (cc) in ap length none
sent-length standing (s ∷ segments) sent is =
    let first = sent-first standing s segments sent is in
    ap length first.is ∙ ap suc (sent-length (standing ++ (s.origin, first.bytes) ∷ []) segments first.others first.rest)

-- of its origin
sent-All : (P : ℕ → Type 0) (standing : List Segment) (segments : List RestoredSegment) (sent : List Segment) → sent_back standing segments ≡ Some sent → All (λ (s : RestoredSegment). P s.origin) segments → All (λ (s : Segment). P s.0) sent
sent-All P standing [] sent is all = let none : [] ≡ sent = (cc) in subst (All (λ (s : Segment). P s.0)) none (All-nil (λ (s : Segment). P s.0))
sent-All P standing (s ∷ segments) sent is all =
    let first = sent-first standing s segments sent is in
    subst (All (λ (s : Segment). P s.0)) (sym first.is)
    (All-cons (λ (s : Segment). P s.0) (s.origin, first.bytes) first.others (All-head (λ (s : RestoredSegment). P s.origin) s segments all)
    (sent-All P (standing ++ (s.origin, first.bytes) ∷ []) segments first.others first.rest (All-tail (λ (s : RestoredSegment). P s.origin) s segments all)))

-- where none is found of an origin, none stands
bytes_from-other : (standing : List Segment) (a : Segment) → Contains standing a → bytes_from standing a.0 ≢ None
bytes_from-other [] a there none = Contains-none a there
bytes_from-other (s ∷ standing) a there none = elim (eqb_tells s.0 a.0) [
  | inl same ↦ absurd (let some = rw same.0 at none in cc)
  | inr differs ↦ elim (Contains-cases s a standing there) [
    | inl is ↦ differs.1 (ap (λ (s : Segment). s.0) is)
    | inr later ↦ bytes_from-other standing a later (rw differs.0 at none)
  ]
]

bytes_from-found : (standing : List Segment) (origin : ℕ) (bytes : List ℕ) → bytes_from standing origin ≡ Some bytes → Contains standing (origin, bytes)
bytes_from-found [] origin bytes is = absurd (cc)
bytes_from-found (s ∷ standing) origin bytes is = elim (eqb_tells s.0 origin) [
  | inl same ↦
      let content : s.1 ≡ bytes = (let some = rw same.0 at is in cc) in
      subst (λ (a : Segment). Contains (s ∷ standing) a) (pair s.0 origin s.1 bytes same.1 content) (Contains-first s standing)
  | inr differs ↦ Contains-later s (origin, bytes) standing (bytes_from-found standing origin bytes (rw differs.0 at is))
]
  where
    pair_of : ℕ → List ℕ → Segment
    pair_of o b = (o, b)

    pair : (o p : ℕ) (b c : List ℕ) → o ≡ p → b ≡ c → pair_of o b ≡ pair_of p c
    pair o p b c same content = rw (same, content) refl

-- one that is put back has the bytes of those of its origin that stand
same-one : (standing : List Segment) (origin : ℕ) (brought : Option (List ℕ)) (bytes : List ℕ) → AreSame standing → bytes_back (bytes_from standing origin) brought ≡ Some bytes → (a : Segment) → Contains standing a → a.0 ≡ origin → a.1 ≡ bytes
same-one standing origin brought bytes same back a there is = by (bytes_from standing origin) refl back brought refl where
  by : (found : Option (List ℕ)) → bytes_from standing origin ≡ found → bytes_back (bytes_from standing origin) brought ≡ Some bytes → (b : Option (List ℕ)) → brought ≡ b → a.1 ≡ bytes
  by None none back b brings = absurd (bytes_from-other standing a there (ap (bytes_from standing) is ∙ none))
  by (Some x) some back (Some again) brings = absurd (let never = rw (some, brings) at back in cc)
  by (Some x) some back None brings =
      let one : x ≡ bytes = (let given = rw (some, brings) at back in cc) in
      same a (origin, x) there (bytes_from-found standing origin x some) is ∙ one

same-push : (standing : List Segment) (origin : ℕ) (brought : Option (List ℕ)) (bytes : List ℕ) → AreSame standing → bytes_back (bytes_from standing origin) brought ≡ Some bytes → AreSame (standing ++ (origin, bytes) ∷ [])
same-push standing origin brought bytes same back a b in_a in_b is =
    elim (cases a in_a) [
      | inl before ↦ elim (cases b in_b) [
        | inl both ↦ same a b before both is
        | inr last ↦ same-one standing origin brought bytes same back a before (is ∙ sym (ap (λ (s : Segment). s.0) last)) ∙ ap (λ (s : Segment). s.1) last
      ]
      | inr here ↦ elim (cases b in_b) [
        | inl before ↦ sym (ap (λ (s : Segment). s.1) here) ∙ sym (same-one standing origin brought bytes same back b before (sym is ∙ sym (ap (λ (s : Segment). s.0) here)))
        | inr both ↦ sym (ap (λ (s : Segment). s.1) here) ∙ ap (λ (s : Segment). s.1) both
      ]
    ]
  where
    cases : (s : Segment) → Contains (standing ++ (origin, bytes) ∷ []) s → Contains standing s ⊎ ((origin, bytes) ≡ s)
    cases s there = elim (Contains-append_cases standing ((origin, bytes) ∷ []) s there) [
      | inl before ↦ inl before
      | inr last ↦ elim (Contains-cases (origin, bytes) s [] last) [
        | inl is ↦ inr is
        | inr none ↦ absurd (Contains-none s none)
      ]
    ]

-- so segments of one origin still have the same bytes
same-back : (standing : List Segment) (segments : List RestoredSegment) (sent : List Segment) → AreSame standing → sent_back standing segments ≡ Some sent → AreSame (standing ++ sent)
same-back standing [] sent same is =
    let all : standing ≡ standing ++ sent = sym (append-nil standing) ∙ (let none : [] ≡ sent = (cc) in ap (λ (l : List Segment). standing ++ l) none) in
    subst AreSame all same
same-back standing (s ∷ segments) sent same is =
    let first = sent-first standing s segments sent is in
    let all : standing ++ (s.origin, first.bytes) ∷ [] ++ first.others ≡ standing ++ sent = append_assoc standing ((s.origin, first.bytes) ∷ []) first.others ∙ ap (λ (l : List Segment). standing ++ l) (sym first.is) in
    subst AreSame all
    (same-back (standing ++ (s.origin, first.bytes) ∷ []) segments first.others (same-push standing s.origin s.bytes first.bytes same first.found) first.rest)

-- ---- the segments of a lawful part

-- those of final uploads are among them
joined-kind : (part : TenantBook) (id : ℕ) (u : Upload) (kind : Kind) (s : Segment) → IsOfKind part u kind → Contains (zip u.parts u.segments) s → Contains (zip (origins kind id u.parts) u.segments) s
joined-kind part id u Plain s sound there = absurd (Contains-none s (subst (λ (parts : List ℕ). Contains (zip parts u.segments) s) sound.parts there))
joined-kind part id u Partial s sound there = absurd (Contains-none s (subst (λ (parts : List ℕ). Contains (zip parts u.segments) s) sound.parts there))
joined-kind part id u Final s sound there = there

joined-sent : (n : Numbers) (part : TenantBook) (entries : List (Entry Upload)) (s : Segment) → All (λ (e : Entry Upload). IsUploadOf n part e.kept) entries → Contains (joined_in entries) s → Contains (sent_in entries) s
joined-sent n part [] s sound there = there
joined-sent n part (e ∷ entries) s sound there =
    let P : Entry Upload → Type 0 = λ (e : Entry Upload). IsUploadOf n part e.kept in
    elim (Contains-append_cases (zip e.kept.parts e.kept.segments) (joined_in entries) s there) [
      | inl here ↦ Contains-append_left (sent_of e) (sent_in entries) s (joined-kind part e.id e.kept e.kept.kind s (All-head P e entries sound).kind here)
      | inr later ↦ Contains-append_right (sent_of e) (sent_in entries) s (joined-sent n part entries s (All-tail P e entries sound) later)
    ]

-- so is that of a partial upload that stands
own-sent : (n : Numbers) (part : TenantBook) (id : ℕ) (u : Upload) → IsTenantOf n part → kept_in part.uploads id ≡ Some u → u.kind ≡ Partial → Contains (sent_in part.uploads) (id, content_of u)
own-sent n part id u sound there partial =
    let lawful : IsUploadOf n part u = kept_in-All (IsUploadOf n part) part.uploads id u sound.uploads there in
    let whole : IsWhole u = subst (IsOfKind part u) partial lawful.kind in
    let segments : sent_of (record { id = id; kept = u }) ≡ (id, content_of u) ∷ [] = ap (λ (kind : Kind). zip (origins kind id u.parts) u.segments) partial ∙ own-segment u whole.segment id in
    flat_map-contains sent_of part.uploads (record { id = id; kept = u }) (id, content_of u) (kept_in-contains part.uploads id u there)
    (subst (λ (l : List Segment). Contains l (id, content_of u)) (sym segments) (Contains-first (id, content_of u) []))

-- ---- an upload that is put back

-- what is known of one that is not refused
pub record IsAcceptable (n : Numbers) (charged : ℕ) (part : TenantBook) (id : ℕ) (u : Upload) : Type 0 where
  pub ends : ends_rightly n u.kind (is_complete u) u.expires ≡ true
  pub fits : is_too_long n (unwrap_or u.declared n.max_size) (offset_of u) ≡ false
  pub parts : list_all (may_be_part part) u.parts ≡ true
  pub room : length part.uploads < n.uploads
  pub last : id ≤ n.last_id
  pub unspent : charged + (charge_in n (with_back part id u) - charge_in n part) ≤ n.last_total
  pub paid : charge_in n (with_back part id u) ≤ part.quota

pub neither : (a b : Bool) → (a || b) ≡ false → (a ≡ false) × (b ≡ false)
neither true b is = absurd (cc)
neither false b is = (refl, is)

IsAcceptable-from_none : (n : Numbers) (charged : ℕ) (part : TenantBook) (id : ℕ) (u : Upload) → first_that_holds (restore_tests n charged part id u) ≡ None → IsAcceptable n charged part id u
IsAcceptable-from_none n charged part id u none =
    let after = charge_in n (with_back part id u) in
    let field = test-passed (not (ends_rightly n u.kind (is_complete u) u.expires)) _ _ none in
    let fits = test-passed (is_too_long n (unwrap_or u.declared n.max_size) (offset_of u)) _ _ field.1 in
    let parts = test-passed (not (list_all (may_be_part part) u.parts)) _ _ fits.1 in
    let room = test-passed (leb n.uploads (length part.uploads)) _ _ parts.1 in
    let unspent = test-passed (ltb n.last_id id || ltb n.last_total (charged + (after - charge_in n part))) _ _ room.1 in
    let paid = test-passed (ltb part.quota after) _ _ unspent.1 in
    let two = neither _ _ unspent.0 in
    record {
      ends = not-false _ field.0;
      fits = fits.0;
      parts = not-false _ parts.0;
      room = leb-false n.uploads (length part.uploads) room.0;
      last = ltb-false n.last_id id two.0;
      unspent = ltb-false n.last_total _ two.1;
      paid = ltb-false part.quota after paid.0;
    }

-- one that is not refused has its segments
pub record IsBack (n : Numbers) (charged : ℕ) (part : TenantBook) (r : RestoredUpload) : Type 0 where
  pub next : part.next ≡ r.id
  pub fresh : part.next ≤ r.id
  pub sent : List Segment
  pub is : sent_back (sent_in part.uploads) r.segments ≡ Some sent
  pub can : IsAcceptable n charged part r.id (upload_back r sent)

pub IsBack-from_none : (n : Numbers) (charged : ℕ) (part : TenantBook) (r : RestoredUpload) → restore_refusal n charged part r ≡ None → IsBack n charged part r
IsBack-from_none n charged part r none =
    let given = test-passed (not (eqb r.id part.next)) _ _ none in
    let next : r.id ≡ part.next = eqb-true r.id part.next (not-false _ given.0) in
    by (sent_back (sent_in part.uploads) r.segments) refl (sym next) given.1
  where
    by : (found : Option (List Segment)) → sent_back (sent_in part.uploads) r.segments ≡ found → part.next ≡ r.id → refusal_with n charged part r found ≡ None → IsBack n charged part r
    by None is next never = absurd (cc)
    by (Some sent) is next none = record { next = next; fresh = omega arith; sent = sent; is = is; can = IsAcceptable-from_none n charged part r.id (upload_back r sent) none }

-- an upload of its own has one segment
own-sent-one : (standing : List Segment) (id : ℕ) (segments : List RestoredSegment) (sent : List Segment) → (bytes : List ℕ) × (segments ≡ record { origin = id; bytes = Some bytes } ∷ []) → sent_back standing segments ≡ Some sent
    → length (map {A = Segment} {B = List ℕ} (λ s. s.1) sent) ≡ 1
own-sent-one standing id segments sent form is =
    length-map sent (λ (s : Segment). s.1) ∙ sent-length standing segments sent is ∙ ap length form.1

-- it may have its end
ends-may : (n : Numbers) (kind : Kind) (complete : Bool) (expires : Option ℕ) → ends_rightly n kind complete expires ≡ true → may_end n kind complete expires ≡ true
ends-may n kind complete expires ends = (and_parts (may_end n kind complete expires) (complete || not (is_final kind)) ends).0

-- and a final one is complete
pub final-complete : (n : Numbers) (complete : Bool) (expires : Option ℕ) → ends_rightly n Final complete expires ≡ true → complete ≡ true
final-complete n true expires ends = refl
final-complete n false expires ends = absurd (true≢false (sym (and_parts (may_end n Final false expires) false ends).1))

-- the segments of a final one are those with its parts
pub zip-sent : (sent : List (ℕ × List ℕ)) → zip (map {A = ℕ × List ℕ} {B = ℕ} (λ s. s.0) sent) (map {A = ℕ × List ℕ} {B = List ℕ} (λ s. s.1) sent) ≡ sent
zip-sent [] = refl
zip-sent (s ∷ sent) = ap (λ (rest : List Segment). s ∷ rest) (zip-sent sent)

list_all-at : {X : Type 0} (test : X → Bool) (xs : List X) → list_all test xs ≡ true → All (λ x. test x ≡ true) xs
list_all-at test [] all = All-nil (λ x. test x ≡ true)
list_all-at test (x ∷ xs) all =
    let both = and_parts (test x) (list_all test xs) all in All-cons (λ x. test x ≡ true) x xs both.0 (list_all-at test xs both.1)

partial-kind : (kind : Kind) → is_partial kind ≡ true → kind ≡ Partial
partial-kind Plain is = absurd (cc)
partial-kind Partial is = refl
partial-kind Final is = absurd (cc)

module _ (n : Numbers) (charged : ℕ) (part : TenantBook) (r : RestoredUpload) (sound : IsTenantOf n part) (form : IsRestorable r) (back : IsBack n charged part r) where
  abbrev u : Upload
  u = upload_back r back.sent

  abbrev later : TenantBook
  later = with_back part r.id u

  same : AreSame (sent_in part.uploads ++ back.sent)
  same = same-back (sent_in part.uploads) r.segments back.sent (sent-same n part sound) back.is

  -- a part that stands has the bytes of the segment
  stands : (s : Segment) → s.0 < r.id → Contains back.sent s → may_be_part part s.0 ≡ true → IsSegmentOf later s.0 s.1
  stands s older there test = rw (kept_in-push part.uploads (record { id = r.id; kept = u }) s.0 (omega arith)) (by (kept_in part.uploads s.0) refl) where
    by : (found : Option Upload) → kept_in part.uploads s.0 ≡ found → IfSome found (λ p. (p.kind ≡ Partial) × IsComplete p × (content_of p ≡ s.1))
    by None none = tt
    by (Some p) is =
        let both = and_parts (is_partial p.kind) (is_complete p) (rw is at test) in
        let kind = partial-kind p.kind both.0 in
        let own = own-sent n part s.0 p sound is kind in
        (kind, complete-from_test p both.1, same (s.0, content_of p) s (Contains-append_left (sent_in part.uploads) back.sent (s.0, content_of p) own) (Contains-append_right (sent_in part.uploads) back.sent s there) refl)

  -- the parts of a final upload
  module _ (final : r.kind ≡ Final) where
    abbrev final_form : HasSegments Final r.id r.segments
    final_form = subst (λ (kind : Kind). HasSegments kind r.id r.segments) final form.segments

    long : length back.sent ≡ length r.segments
    long = sent-length (sent_in part.uploads) r.segments back.sent back.is

    earlier : All (λ (s : Segment). (0 < s.0) × (s.0 < r.id)) back.sent
    earlier = sent-All (λ o. (0 < o) × (o < r.id)) (sent_in part.uploads) r.segments back.sent back.is final_form.2

    abbrev firsts : List ℕ
    firsts = map {A = Segment} {B = ℕ} (λ s. s.0) back.sent

    parts-final : u.parts ≡ firsts
    parts-final = ap (λ (kind : Kind). parts_of kind firsts) final

    pairs : zip u.parts u.segments ≡ back.sent
    pairs = ap (λ (parts : List ℕ). zip parts u.segments) parts-final ∙ zip-sent back.sent

    -- each may be a part
    passes : All (λ (s : Segment). may_be_part part s.0 ≡ true) back.sent
    passes = λ k d within.
        let there : All (λ (o : ℕ). may_be_part part o ≡ true) firsts = subst (All (λ (o : ℕ). may_be_part part o ≡ true)) parts-final (list_all-at (may_be_part part) u.parts back.can.parts) in
        let at : get_or firsts k d.0 ≡ (get_or back.sent k d).0 = get_or-map (λ (s : Segment). s.0) back.sent k d in
        subst (λ (o : ℕ). may_be_part part o ≡ true) at (there k d.0 (omega (arith, within, length-map back.sent (λ (s : Segment). s.0))))

    has-parts : HasParts later u
    has-parts = record {
      some = omega (arith, long, final_form.0, length-map back.sent (λ (s : Segment). s.0), ap length parts-final);
      few = omega (arith, long, final_form.1, length-map back.sent (λ (s : Segment). s.0), ap length parts-final);
      given = rw parts-final (All-map (IsGivenIn later) (λ (s : Segment). s.0) back.sent (λ k d within. let one = earlier k d within in (one.0, omega (arith, one.1))));
      each = length-map back.sent (λ (s : Segment). s.1) ∙ sym (length-map back.sent (λ (s : Segment). s.0)) ∙ sym (ap length parts-final);
      same = subst (All (λ (s : Segment). IsSegmentOf later s.0 s.1)) (sym pairs) (λ k d within. stands (get_or back.sent k d) (earlier k d within).1 (Contains-get_or back.sent k d within) (passes k d within));
    }

    shared-final : HasSharedParts (with_next part r.id) r.id u
    shared-final = record {
      earlier = rw parts-final (All-map (λ p. p < r.id) (λ (s : Segment). s.0) back.sent (λ k d within. (earlier k d within).1));
      same = λ a b in_a in_b is.
          let here : Contains back.sent a = subst (λ (l : List Segment). Contains l a) pairs in_a in
          same a b (Contains-append_right (sent_in part.uploads) back.sent a here) (among b in_b) is;
    }
      where
        among : (b : Segment) → Contains (joined_in part.uploads) b ⊎ Contains (zip u.parts u.segments) b → Contains (sent_in part.uploads ++ back.sent) b
        among b (inl before) = Contains-append_left (sent_in part.uploads) back.sent b (joined-sent n part part.uploads b sound.uploads before)
        among b (inr new) = Contains-append_right (sent_in part.uploads) back.sent b (subst (λ (l : List Segment). Contains l b) pairs new)

  -- an upload of its own has no parts
  own-parts : (kind : Kind) → r.kind ≡ kind → is_final kind ≡ false → u.parts ≡ []
  own-parts Plain is own = ap (λ (kind : Kind). parts_of kind (map {A = Segment} {B = ℕ} (λ s. s.0) back.sent)) is
  own-parts Partial is own = ap (λ (kind : Kind). parts_of kind (map {A = Segment} {B = ℕ} (λ s. s.0) back.sent)) is
  own-parts Final is own = absurd (cc)

  -- it is as its kind asks
  of-kind : (kind : Kind) → r.kind ≡ kind → IsOfKind later u kind
  of-kind Plain is =
      record { segment = own-sent-one (sent_in part.uploads) r.id r.segments back.sent (subst (λ (kind : Kind). HasSegments kind r.id r.segments) is form.segments) back.is; parts = own-parts Plain is refl }
  of-kind Partial is =
      record { segment = own-sent-one (sent_in part.uploads) r.id r.segments back.sent (subst (λ (kind : Kind). HasSegments kind r.id r.segments) is form.segments) back.is; parts = own-parts Partial is refl }
  of-kind Final is =
      (has-parts is, complete-from_test u (final-complete n (is_complete u) u.expires (subst (λ (kind : Kind). ends_rightly n kind (is_complete u) u.expires ≡ true) is back.can.ends)))

  shared-kind : (kind : Kind) → r.kind ≡ kind → HasSharedParts (with_next part r.id) r.id u
  shared-kind Plain is = HasSharedParts-none (with_next part r.id) r.id u (own-parts Plain is refl)
  shared-kind Partial is = HasSharedParts-none (with_next part r.id) r.id u (own-parts Partial is refl)
  shared-kind Final is = shared-final is

  upload-sound : IsUploadOf n later u
  upload-sound =
      let within = ends_within n u.declared (offset_of u) back.can.fits in
      record { within = within.0; size = within.1; kind = of-kind r.kind refl; ends = ends-may n u.kind (is_complete u) u.expires back.can.ends; metadata = form.metadata; concat = form.concat }

-- a later next id leaves a part as it should be
pub IsTenantOf-next : (n : Numbers) (part : TenantBook) (next : ℕ) → part.next ≤ next → next ≤ n.last_id + 1 → IsTenantOf n part → IsTenantOf n (with_next part next)
IsTenantOf-next n part next more few sound =
    let given : (id : ℕ) → IsGivenIn part id → IsGivenIn (with_next part next) id = λ id given. (given.0, omega (arith, given.1)) in
    record {
      first = omega (arith, sound.first);
      last = few;
      few = sound.few;
      ascending = sound.ascending;
      given = All-weaker (λ (e : Entry Upload). IsGivenIn part e.id) (λ (e : Entry Upload). IsGivenIn (with_next part next) e.id) (λ e. given e.id) part.uploads sound.given;
      uploads = All-weaker (λ (e : Entry Upload). IsUploadOf n part e.kept) (λ (e : Entry Upload). IsUploadOf n (with_next part next) e.kept) (λ e. IsUploadOf-beside n part (with_next part next) e.kept given (λ id segment given is. is)) part.uploads sound.uploads;
      later = sound.later;
      shared = sound.shared;
    }

-- and costs nothing
pub charge-next : (n : Numbers) (part : TenantBook) (next : ℕ) → part.next ≤ next → IsTenantOf n part → charge_in n (with_next part next) ≡ charge_in n part
charge-next n part next more sound = sym (charge-end n part part.next next more (sources-given n part sound))

-- an upload that is put back leaves a part as it should be
pub IsTenantOf-back : (n : Numbers) (charged : ℕ) (part : TenantBook) (r : RestoredUpload) → IsTenantOf n part → IsRestorable r → (back : IsBack n charged part r) → IsTenantOf n (with_back part r.id (upload_back r back.sent))
IsTenantOf-back n charged part r sound form back =
    IsTenantOf-with_new n (with_next part r.id) (upload_back r back.sent) back.can.room back.can.last (upload-sound n charged part r sound form back) (shared-kind n charged part r sound form back r.kind refl)
    (IsTenantOf-next n part r.id back.fresh (omega (arith, back.can.last)) sound)

-- ---- the book

tenant-sound : (b : PlainBook) (t : ℕ) → IsLawful b → t < length b.tenants → IsTenantOf b.settings.numbers (tenant_book b t)
tenant-sound b t lawful within = lawful.tenants t (opening_part 0) within

pub IsLawful-upload : (b : PlainBook) (t : ℕ) (r : RestoredUpload) → IsLawful b → t < length b.tenants → IsRestorable r → restore_refusal b.settings.numbers b.charged (tenant_book b t) r ≡ None → IsLawful (book_with b (piece.Upload t r))
IsLawful-upload b t r lawful within form none =
    let part : TenantBook = tenant_book b t in
    let back = IsBack-from_none b.settings.numbers b.charged part r none in
    subst (λ (found : Option (List Segment)). IsLawful (with_tenant_book b t (part_with part r found))) (sym back.is)
    (IsLawful-with_tenant_book b t (with_back part r.id (upload_back r back.sent)) lawful within refl (IsTenantOf-back b.settings.numbers b.charged part r (tenant-sound b t lawful within) form back) back.can.paid back.can.unspent)

pub IsLawful-next : (b : PlainBook) (t next : ℕ) → IsLawful b → t < length b.tenants → first_that_holds (next_tests b.settings.numbers (tenant_book b t) next) ≡ None → IsLawful (book_with b (piece.Next t next))
IsLawful-next b t next lawful within none =
    let part : TenantBook = tenant_book b t in
    let sound = tenant-sound b t lawful within in
    let given = test-passed (ltb next part.next) _ _ none in
    let unspent = test-passed (ltb (b.settings.numbers.last_id + 1) next) _ _ given.1 in
    let more : part.next ≤ next = ltb-false next part.next given.0 in
    IsLawful-with_tenant_book-same b t (with_next part next) lawful within refl (IsTenantOf-next b.settings.numbers part next more (ltb-false _ next unspent.0) sound) (charge-next b.settings.numbers part next more sound)

pub IsLawful-totals : (b : PlainBook) (released : ℕ) → IsLawful b → first_that_holds (totals_tests b released) ≡ None → IsLawful (book_with b (piece.Totals released))
IsLawful-totals b released lawful none =
    let field = test-passed (ltb released b.released) _ _ none in
    let spent = test-passed (ltb b.settings.numbers.last_total (charged_with b released)) _ _ field.1 in
    record {
      settings = lawful.settings;
      quotas = lawful.quotas;
      tenants = lawful.tenants;
      charges = lawful.charges;
      totals = omega (arith, lawful.totals);
      last = ltb-false _ (charged_with b released) spent.0;
    }

IsLawful-with : (b : PlainBook) (r : Restored) → IsLawful b → CanBePutBack (length b.tenants) r → piece_refusal b r ≡ None → IsLawful (book_with b r)
IsLawful-with b (piece.Upload t r) lawful asked none = IsLawful-upload b t r lawful asked.0 asked.1 none
IsLawful-with b (piece.Next t next) lawful asked none = IsLawful-next b t next lawful asked none
IsLawful-with b (piece.Totals released) lawful asked none = IsLawful-totals b released lawful none

-- whatever is put back, the book stays lawful
pub IsLawful-piece : (b : PlainBook) (r : Restored) → IsLawful b → CanBePutBack (length b.tenants) r → IsLawful (book_after_piece b r)
IsLawful-piece b r lawful asked = by (piece_refusal b r) refl where
  by : (why : Option Refusal) → piece_refusal b r ≡ why → IsLawful (book_after_piece b r)
  by None none = rw none (IsLawful-with b r lawful asked none)
  by (Some why) refused = rw refused lawful
