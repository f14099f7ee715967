-- The segments of an upload are put back as they were: each brings its bytes, or they are those of its origin that stand.
use Rattle.std.proofs.Common.{◌≡◌, ◌⊎◌, ℕ, zero, suc, ◌<◌, cond, List, [], ◌∷◌, ◌++◌, length, get_or, Option, Some, None, IfSome, is_some, refl, inl, inr, sym, ap, subst, ◌∙◌, arith, append_assoc}
use Rattle.std.specs.List.{All, Contains, flat_map, zip}
use Rattle.std.proofs.lemmas.Bool.Decides.{eqb_tells}
use Rattle.std.proofs.lemmas.List.{append-nil}
use Rattle.std.proofs.lemmas.List.Elements.{All-cons, All-contains, All-head, All-nil, All-tail, All-weaker, Contains-append_left, Contains-append_right, Contains-get_or}
use Rattle.std.proofs.lemmas.Slice.Zip.{length-zip}
use Rattle.upload_book.specs.Charge.{Source, origins, sources_of}
use Rattle.upload_book.specs.declared.head_row.Kind.{Kind}
use Rattle.upload_book.specs.declared.head_row.Kind.TheVariants.{Plain, Partial, Final}
use Rattle.upload_book.specs.declared.settings.Numbers.{Numbers}
use Rattle.upload_book.specs.Lawful.{IsOfKind, IsSegmentOf, IsTenantOf, joined_in}
use Rattle.upload_book.specs.snapshot.Restore.{HasSegments, bytes_back, bytes_from, sent_back, sent_in, sent_of}
use Rattle.upload_book.specs.snapshot.Restored.{RestoredSegment}
use Rattle.upload_book.specs.snapshot.Snapshot.{segments_kept}
use Rattle.upload_book.specs.TenantBook.{Entry, TenantBook, kept_in}
use Rattle.upload_book.specs.Upload.{Upload, content_of}
use Rattle.upload_book.proofs.Charge.InUse.{Contains-first, Contains-later}
use Rattle.upload_book.proofs.Charge.PriceLemmas.{All-flat_map, All-zip_left, sources-All}
use Rattle.upload_book.proofs.Lawful.Entries.{kept_in-place}
use Rattle.upload_book.proofs.Lawful.SharedLemmas.{joined_of, joined-stand}

-- a segment with its origin
abbrev Segment : Type 0
Segment = ℕ × List ℕ

-- segments of one origin have the same bytes
abbrev pub AreSame : List (ℕ × List ℕ) → Type 0
AreSame sent = (a b : ℕ × List ℕ) → Contains sent a → Contains sent b → a.0 ≡ b.0 → a.1 ≡ b.1

-- bytes that are found for an origin are those of one of its segments
bytes_from-stands : (standing : List Segment) (origin : ℕ) → IfSome (bytes_from standing origin) (λ bytes. Contains standing (origin, bytes))
bytes_from-stands [] origin = tt
bytes_from-stands (s ∷ standing) origin = elim (eqb_tells s.0 origin) [
  | inl same ↦ rw same.0 (subst (λ o. Contains (s ∷ standing) (o, s.1)) same.1 (Contains-first s standing))
  | inr differs ↦ rw differs.0 (later (bytes_from standing origin) (bytes_from-stands standing origin))
]
  where
    later : (found : Option (List ℕ)) → IfSome found (λ bytes. Contains standing (origin, bytes)) → IfSome found (λ bytes. Contains (s ∷ standing) (origin, bytes))
    later None there = tt
    later (Some bytes) there = Contains-later s (origin, bytes) standing there

-- the bytes of a segment are put back: it brings them, or those that stand are the same
brought : (s : Segment) (found : Option (List ℕ)) → IfSome found (λ bytes. bytes ≡ s.1) → bytes_back found (cond (is_some found) None (Some s.1)) ≡ Some s.1
brought s None same = refl
brought s (Some bytes) same = ap Some same

-- so are segments, one after another, where those of one origin have the same bytes
pub sent_back-kept : (standing sent : List (ℕ × List ℕ)) → AreSame (standing ++ sent) → sent_back standing (segments_kept standing sent) ≡ Some sent
sent_back-kept standing [] same = refl
sent_back-kept standing (s ∷ sent) same =
    let regrouped : standing ++ s ∷ [] ++ sent ≡ standing ++ s ∷ sent = append_assoc standing (s ∷ []) sent in
    let rest : sent_back (standing ++ s ∷ []) (segments_kept (standing ++ s ∷ []) sent) ≡ Some sent =
    sent_back-kept (standing ++ s ∷ []) sent (subst AreSame (sym regrouped) same) in
    rw (brought s (bytes_from standing s.0) (found (bytes_from standing s.0) (bytes_from-stands standing s.0))) (rw rest refl)
  where
    found : (bytes : Option (List ℕ)) → IfSome bytes (λ bytes. Contains standing (s.0, bytes)) → IfSome bytes (λ bytes. bytes ≡ s.1)
    found None there = tt
    found (Some bytes) there =
        same (s.0, bytes) s (Contains-append_left standing (s ∷ sent) (s.0, bytes) there) (Contains-append_right standing (s ∷ sent) s (Contains-first s sent)) refl

-- ---- what is put back of an upload has the segments of its kind

-- an upload that is not final has its bytes as its one segment
pub own-segment : (u : Upload) → length u.segments ≡ 1 → (id : ℕ) → zip (id ∷ []) u.segments ≡ (id, content_of u) ∷ []
own-segment u one id = by u.segments one where
  by : (segments : List (List ℕ)) → length segments ≡ 1 → zip (id ∷ []) segments ≡ (id, flat_map (λ segment. segment) segments) ∷ []
  by [] none = absurd (omega arith)
  by (s ∷ t ∷ segments) more = absurd (omega arith)
  by (s ∷ []) one = ap (λ bytes. (id, bytes) ∷ []) (sym (append-nil s))

-- what holds of the origins of segments holds of those that are put back
kept-All : (P : ℕ → Type 0) (standing sent : List Segment) → All (λ (s : Segment). P s.0) sent → All (λ (s : RestoredSegment). P s.origin) (segments_kept standing sent)
kept-All P standing [] all = All-nil (λ (s : RestoredSegment). P s.origin)
kept-All P standing (s ∷ sent) all =
    All-cons (λ (s : RestoredSegment). P s.origin) _ _ (All-head (λ (s : Segment). P s.0) s sent all) (kept-All P (standing ++ s ∷ []) sent (All-tail (λ (s : Segment). P s.0) s sent all))

kept-length : (standing sent : List Segment) → length (segments_kept standing sent) ≡ length sent
kept-length standing [] = refl
kept-length standing (s ∷ sent) = ap suc (kept-length (standing ++ s ∷ []) sent)

-- where all origins are below an id, none stands of it
pub bytes_from-none : (standing : List Segment) (id : ℕ) → All (λ (s : Segment). s.0 < id) standing → bytes_from standing id ≡ None
bytes_from-none [] id below = refl
bytes_from-none (s ∷ standing) id below = elim (eqb_tells s.0 id) [
  | inl same ↦ absurd (let first : s.0 < id = All-head (λ (s : Segment). s.0 < id) s standing below in omega (arith, same.1))
  | inr differs ↦ rw differs.0 (bytes_from-none standing id (All-tail (λ (s : Segment). s.0 < id) s standing below))
]

own-kept : (standing : List Segment) (id : ℕ) (bytes : List ℕ) → bytes_from standing id ≡ None → segments_kept standing ((id, bytes) ∷ []) ≡ record { origin = id; bytes = Some bytes } ∷ []
own-kept standing id bytes none = rw none refl

pub segments-kept : (part : TenantBook) (standing : List (ℕ × List ℕ)) (id : ℕ) (u : Upload) (kind : Kind) → IsOfKind part u kind → All (λ (s : ℕ × List ℕ). s.0 < id) standing → All (λ p. p < id) u.parts
    → HasSegments kind id (segments_kept standing (zip (origins kind id u.parts) u.segments))
segments-kept part standing id u Plain sound below older =
    (content_of u, rw (own-segment u sound.segment id) (own-kept standing id (content_of u) (bytes_from-none standing id below)))
segments-kept part standing id u Partial sound below older =
    (content_of u, rw (own-segment u sound.segment id) (own-kept standing id (content_of u) (bytes_from-none standing id below)))
segments-kept part standing id u Final sound below older =
    let pairs : List Segment = zip u.parts u.segments in
    let long : length pairs ≡ length u.parts = omega (arith, length-zip u.parts u.segments, sound.0.each) in (
      omega (arith, kept-length standing pairs, long, sound.0.some),
      omega (arith, kept-length standing pairs, long, sound.0.few),
      kept-All (λ p. (0 < p) × (p < id)) standing pairs (All-zip_left (λ p. (0 < p) × (p < id)) u.parts u.segments (λ k d within. ((sound.0.given k d within).0, older k d within))),
    )

-- the origins of uploads below an end, of which each is later than its parts, are below it
origins-below : (end : ℕ) (kind : Kind) (id : ℕ) (parts : List ℕ) → id < end → All (λ p. p < id) parts → All (λ o. o < end) (origins kind id parts)
origins-below end Plain id parts own older = All-cons (λ o. o < end) id [] own (All-nil (λ o. o < end))
origins-below end Partial id parts own older = All-cons (λ o. o < end) id [] own (All-nil (λ o. o < end))
origins-below end Final id parts own older = All-weaker (λ p. p < id) (λ o. o < end) (λ p less. omega arith) parts older

pub sent-below : (entries : List (Entry Upload)) (end : ℕ) → All (λ (e : Entry Upload). e.id < end) entries → All (λ (e : Entry Upload). All (λ p. p < e.id) e.kept.parts) entries → All (λ (s : ℕ × List ℕ). s.0 < end) (sent_in entries)
sent-below entries end below older =
    All-flat_map (λ (s : Segment). s.0 < end) sent_of entries (λ k d within.
    let e : Entry Upload = get_or entries k d in
    All-zip_left (λ o. o < end) (origins e.kept.kind e.id e.kept.parts) e.kept.segments (origins-below end e.kept.kind e.id e.kept.parts (below k d within) (older k d within)))

-- so are those of the segments that are paid
pub sources-below : (entries : List (Entry Upload)) (end : ℕ) → All (λ (e : Entry Upload). e.id < end) entries → All (λ (e : Entry Upload). All (λ p. p < e.id) e.kept.parts) entries → All (λ (s : Source). s.origin < end) (flat_map sources_of entries)
sources-below entries end below older =
    All-flat_map (λ (s : Source). s.origin < end) sources_of entries (λ k d within.
    let e : Entry Upload = get_or entries k d in
    let id : e.id < end = below k d within in
    sources-All (λ o. o < end) e id (λ final. All-weaker (λ p. p < e.id) (λ o. o < end) (λ p less. omega arith) e.kept.parts (older k d within)))

-- ---- the segments of a tenant

-- What is known of a segment of a tenant's upload: it is that of the upload that stands under its origin, or none stands
-- there, and it is one of a final upload.
abbrev IsSent : TenantBook → Segment → Type 0
IsSent part s =
    ((u : Upload) × (kept_in part.uploads s.0 ≡ Some u) × (content_of u ≡ s.1)) ⊎ ((kept_in part.uploads s.0 ≡ None) × Contains (joined_in part.uploads) s)

sent-kind : (part : TenantBook) (id : ℕ) (u : Upload) (kind : Kind) → kept_in part.uploads id ≡ Some u → IsOfKind part u kind
    → ((s : Segment) → Contains (zip u.parts u.segments) s → Contains (joined_in part.uploads) s)
    → All (λ (s : Segment). IsSegmentOf part s.0 s.1) (joined_in part.uploads)
    → All (IsSent part) (zip (origins kind id u.parts) u.segments)
sent-kind part id u Plain there sound joins stand =
    rw (own-segment u sound.segment id) (All-cons (IsSent part) (id, content_of u) [] (inl (u, there, refl)) (All-nil (IsSent part)))
sent-kind part id u Partial there sound joins stand =
    rw (own-segment u sound.segment id) (All-cons (IsSent part) (id, content_of u) [] (inl (u, there, refl)) (All-nil (IsSent part)))
sent-kind part id u Final there sound joins stand = λ k d within.
    let s : Segment = get_or (zip u.parts u.segments) k d in
    let listed : Contains (joined_in part.uploads) s = joins s (Contains-get_or (zip u.parts u.segments) k d within) in
    by s listed (All-contains (λ (s : Segment). IsSegmentOf part s.0 s.1) (joined_in part.uploads) s stand listed) (kept_in part.uploads s.0) refl
  where
    by : (s : Segment) → Contains (joined_in part.uploads) s → IsSegmentOf part s.0 s.1 → (found : Option Upload) → kept_in part.uploads s.0 ≡ found → IsSent part s
    by s listed segment None is = inr (is, listed)
    by s listed segment (Some p) is = inl (p, is, (rw is at segment).2)

joined-within : (entries : List (Entry Upload)) (k : ℕ) (d : Entry Upload) (s : Segment) → k < length entries → Contains (joined_of (get_or entries k d)) s → Contains (joined_in entries) s
joined-within [] k d s within there = absurd (omega arith)
joined-within (e ∷ entries) zero d s within there = Contains-append_left (joined_of e) (joined_in entries) s there
joined-within (e ∷ entries) (suc k) d s within there =
    Contains-append_right (joined_of e) (joined_in entries) s (joined-within entries k d s (omega arith) there)

sent-stand : (n : Numbers) (part : TenantBook) → IsTenantOf n part → All (IsSent part) (sent_in part.uploads)
sent-stand n part sound =
    All-flat_map (IsSent part) sent_of part.uploads (λ k d within.
    let e : Entry Upload = get_or part.uploads k d in
    sent-kind part e.id e.kept e.kept.kind (kept_in-place part.uploads e.id k d sound.ascending within refl) (sound.uploads k d within).kind (λ s there. joined-within part.uploads k d s within there) (joined-stand n part sound.uploads))

-- segments of one tenant that have one origin have the same bytes
pub sent-same : (n : Numbers) (part : TenantBook) → IsTenantOf n part → AreSame (sent_in part.uploads)
sent-same n part sound a b in_a in_b same =
    let stand = sent-stand n part sound in
    by (All-contains (IsSent part) (sent_in part.uploads) a stand in_a) (All-contains (IsSent part) (sent_in part.uploads) b stand in_b)
  where
    by : IsSent part a → IsSent part b → a.1 ≡ b.1
    by (inr first) (inr second) = sound.shared a b first.1 second.1 same
    by (inl first) (inl second) =
        let both : Some first.0 ≡ Some second.0 = sym first.1 ∙ ap (kept_in part.uploads) same ∙ second.1 in
        let one : first.0 ≡ second.0 = (cc) in
        sym first.2 ∙ ap content_of one ∙ second.2
    by (inl first) (inr second) =
        let both : Some first.0 ≡ None = sym first.1 ∙ ap (kept_in part.uploads) same ∙ second.0 in absurd (cc)
    by (inr first) (inl second) =
        let both : Some second.0 ≡ None = sym second.1 ∙ ap (kept_in part.uploads) (sym same) ∙ first.0 in absurd (cc)
