-- One more upload: a new one, which has no block, or one joined of pieces that the tenant has.
use Rattle.std.proofs.Common.{◌≡◌, ◌⊎◌, ℕ, ◌+◌, ◌*◌, ◌^◌, ◌<◌, ◌≤◌, List, [], ◌∷◌, ◌++◌, map, length, get_or, set, refl, inl, inr, ap, sym, subst, ◌∙◌, arith}
use Rattle.std.specs.List.{All, Contains}
use Rattle.std.proofs.lemmas.List.{get_or-map}
use Rattle.std.proofs.lemmas.List.Concat.{flat_map-append, length-flat_map}
use Rattle.std.proofs.lemmas.List.Elements.{Contains-append_cases, Contains-get_or}
use Rattle.std.proofs.lemmas.List.Sums.{sum_by-le}
use Rattle.std.proofs.Math.ListN.{length-map}
use Rattle.block_pool.specs.Blocks.{Blocks, count_at, places_of}
use Rattle.block_bodies.specs.Bodies.{Chain, blocks_for}
use Rattle.block_bodies.specs.Changes.{Holds, MayHold}
use Rattle.block_bodies.proofs.BodiesLaws.{blocks_for-none}
use Rattle.upload_book.specs.declared.pieces.Piece.{Piece}
use Rattle.upload_book.specs.Stored.{StoredTenant, StoredUpload, pieces_of, placed_in, places_on, charge_on, Agree, IsPiece, ArePieces, HoldsPieces, Segment, segment_of}
use Rattle.upload_book.specs.TenantBook.{Entry, with_new}
use Rattle.upload_book.proofs.Charge.InUse.{places-within, places-found, Contains-cases, Contains-none}
use Rattle.upload_book.proofs.Store.Pieces.{IsCopyIn, ArePieces-copies, kept_pieces, places-joined, places-few}
use Rattle.upload_book.proofs.Store.StoredTenants.{IsStoredTenant, IsStoredOn, IsStoredOn-stored_tenant, places_on-held, Changes, HoldsPieces-changed, charge-changed}
use Rattle.upload_book.proofs.Store.PutLemmas.{own_piece}

-- one more upload's pieces stand after the others
pub pieces-with_new : (old : StoredTenant) (kept : StoredUpload) → pieces_of (with_new old kept) ≡ pieces_of old ++ (kept.pieces ++ [])
pieces-with_new old kept = flat_map-append kept_pieces old.uploads (record { id = old.next; kept = kept } ∷ [])

-- a block stands on the stored part with one more upload as often as on the stored part and in the upload
pub places-with_new : (b : ℕ) (old : StoredTenant) (kept : StoredUpload) → places_on b (with_new old kept) ≡ places_on b old + places_of b (placed_in kept.pieces)
places-with_new b old kept =
    ap (λ pieces. places_of b (placed_in pieces)) (pieces-with_new old kept) ∙ places-joined b (pieces_of old) (kept.pieces ++ [])
    ∙ ap (λ n. places_on b old + n) (places-joined b kept.pieces [] ∙ omega arith)

-- a piece of it was there, or is the upload's
pub Contains-with_new : (old : StoredTenant) (kept : StoredUpload) (x : Piece) → Contains (pieces_of (with_new old kept)) x → Contains (pieces_of old) x ⊎ Contains kept.pieces x
Contains-with_new old kept x c = elim (Contains-append_cases (pieces_of old) (kept.pieces ++ []) x (subst (λ pieces. Contains pieces x) (pieces-with_new old kept) c)) [
  | inl before ↦ inl before
  | inr rest ↦ elim (Contains-append_cases kept.pieces [] x rest) [
    | inl here ↦ inr here
    | inr none ↦ absurd (Contains-none x none)
  ]
]

-- what a new upload does to the stored part; the pool stays
pub Changes-new : (p : Blocks) (old : StoredTenant) (kept : StoredUpload) (x : Chain) → 0 < p.block_size → IsStoredOn p old → kept.pieces ≡ own_piece old.next x ∷ [] → x.blocks ≡ [] → x.len ≡ 0 → Changes p old p (with_new old kept)
Changes-new p old kept x pool on own none no_bytes = record {
  sizes = record { blocks = refl; bytes = refl };
  pieces = record { each = each; agree = agree };
  counts = λ b. omega (arith, places-with_new b old kept, nowhere b);
  fresh = λ b some before. absurd (omega (arith, places-with_new b old kept, nowhere b));
}
  where
    no_place : (b : ℕ) → places_of b x.blocks ≡ 0
    no_place b = ap (places_of b) none

    nowhere : (b : ℕ) → places_of b (placed_in kept.pieces) ≡ 0
    nowhere b = ap (λ pieces. places_of b (placed_in pieces)) own ∙ ap (λ (list : List ℕ). places_of b (list ++ [])) none

    cases : (z : Piece) → Contains (pieces_of (with_new old kept)) z → (own_piece old.next x ≡ z) ⊎ Contains (pieces_of old) z
    cases z c = elim (Contains-with_new old kept z c) [
      | inl before ↦ inr before
      | inr here ↦ elim (Contains-cases (own_piece old.next x) z [] (subst (λ pieces. Contains pieces z) own here)) [
        | inl same ↦ inl same
        | inr nothing ↦ absurd (Contains-none z nothing)
      ]
    ]

    mine : IsPiece p.block_size (old.next + 1) (own_piece old.next x)
    mine = record {
      given = omega arith;
      blocks = ap (λ (list : List ℕ). length list) none ∙ sym (blocks_for-none p.block_size pool) ∙ ap (blocks_for p.block_size) (sym no_bytes);
      once = record { once = λ b. omega (arith, no_place b) };
    }

    other : (z : Piece) → Contains (pieces_of old) z → IsPiece p.block_size (old.next + 1) z
    other z c = let is = on.pieces.each z c in record { given = omega (arith, is.given); blocks = is.blocks; once = is.once }

    each : (z : Piece) → Contains (pieces_of (with_new old kept)) z → IsPiece p.block_size (old.next + 1) z
    each z c = elim (cases z c) [
      | inl same ↦ subst (IsPiece p.block_size (old.next + 1)) same mine
      | inr before ↦ other z before
    ]

    mine-other : (z : Piece) → Contains (pieces_of old) z → Agree (own_piece old.next x) z
    mine-other z c =
        let given : z.origin < old.next = (on.pieces.each z c).given in
        record {
          blocks = λ same. absurd (omega arith);
          len = λ same. absurd (omega arith);
          apart = λ b some there. absurd (omega (arith, no_place b));
        }

    other-mine : (z : Piece) → Contains (pieces_of old) z → Agree z (own_piece old.next x)
    other-mine z c =
        let given : z.origin < old.next = (on.pieces.each z c).given in
        record {
          blocks = λ same. absurd (omega arith);
          len = λ same. absurd (omega arith);
          apart = λ b there some. absurd (omega (arith, no_place b));
        }

    agree : (v w : Piece) → Contains (pieces_of (with_new old kept)) v → Contains (pieces_of (with_new old kept)) w → Agree v w
    agree v w c d = elim (cases v c) [
      | inl same ↦ elim (cases w d) [
        | inl same' ↦ subst (λ v. Agree v w) same (subst (Agree (own_piece old.next x)) same' (record { blocks = λ e. refl; len = λ e. refl; apart = λ b some some'. refl }))
        | inr before ↦ subst (λ v. Agree v w) same (mine-other w before)
      ]
      | inr before ↦ elim (cases w d) [
        | inl same ↦ subst (Agree v) same (other-mine v before)
        | inr before' ↦ on.pieces.agree v w before before'
      ]
    ]

-- the stored book with the new upload
pub HoldsPieces-new : (p : Blocks) (stored_tenants : List StoredTenant) (t : ℕ) (old : StoredTenant) (kept : StoredUpload) (x : Chain) → 0 < p.block_size → HoldsPieces p stored_tenants → IsStoredTenant stored_tenants t old → kept.pieces ≡ own_piece old.next x ∷ [] → x.blocks ≡ [] → x.len ≡ 0
    → HoldsPieces p (set stored_tenants t (with_new old kept))
HoldsPieces-new p stored_tenants t old kept x pool stored stored_tenant own none no_bytes =
    HoldsPieces-changed p stored_tenants t old p (with_new old kept) stored stored_tenant (Changes-new p old kept x pool (IsStoredOn-stored_tenant p stored_tenants t old stored stored_tenant) own none no_bytes)

-- the tenant pays nothing for it
pub new-charge : (p : Blocks) (stored_tenants : List StoredTenant) (t : ℕ) (old : StoredTenant) (kept : StoredUpload) (x : Chain) → 0 < p.block_size → HoldsPieces p stored_tenants → IsStoredTenant stored_tenants t old → kept.pieces ≡ own_piece old.next x ∷ [] → x.blocks ≡ [] → x.len ≡ 0
    → charge_on p.block_size (with_new old kept) ≡ charge_on p.block_size old
new-charge p stored_tenants t old kept x pool stored stored_tenant own none no_bytes =
    let change : Changes p old p (with_new old kept) = Changes-new p old kept x pool (IsStoredOn-stored_tenant p stored_tenants t old stored stored_tenant) own none no_bytes in
    stays _ _ _ (charge-changed p stored_tenants t old p (with_new old kept) stored stored_tenant change)
  where
    stays : (f a b : ℕ) → f + b ≡ f + a → b ≡ a
    stays f a b change = omega arith

-- the pieces of an upload are copies of pieces that the tenant has
abbrev pub AreCopies : StoredTenant → List Piece → Type 0
AreCopies old copies = (x : Piece) → Contains copies x → IsCopyIn (pieces_of old) x

-- a block of theirs stands on the stored part
copies-stand : (old : StoredTenant) (copies : List Piece) → AreCopies old copies → (b : ℕ) → 0 < places_of b (placed_in copies) → 0 < places_on b old
copies-stand old copies are b some =
    let x = places-found b copies some in
    let z = are x.0 x.1 in
    let same : places_of b x.0.chain.blocks ≡ places_of b z.0.chain.blocks = ap (λ (s : Segment). places_of b s.blocks) z.2 in
    omega (arith, x.2, places-within b (pieces_of old) z.0 z.1)

-- they are where their segments are, in order, those of such pieces
pub AreCopies-from : (old : StoredTenant) (copies parts : List Piece) → map segment_of copies ≡ map segment_of parts → ((z : Piece) → Contains parts z → Contains (pieces_of old) z) → AreCopies old copies
AreCopies-from old copies parts same within x c =
    let long : length copies ≡ length parts = sym (length-map copies segment_of) ∙ ap (λ (list : List Segment). length list) same ∙ length-map parts segment_of in
    let there : c.0 < length parts = omega (arith, c.1) in
    let z : Piece = get_or parts c.0 x in
    let segment : segment_of x ≡ segment_of z =
    ap segment_of (sym c.2) ∙ sym (get_or-map segment_of copies c.0 x (segment_of x) c.1) ∙ ap (λ (list : List Segment). get_or list c.0 (segment_of x)) same ∙ get_or-map segment_of parts c.0 x (segment_of x) there in
    (z, within z (Contains-get_or parts c.0 x there), segment)

-- what a joined upload does to the stored part
pub Changes-join : (p : Blocks) (old : StoredTenant) (kept : StoredUpload) (q : Blocks) → IsStoredOn p old → AreCopies old kept.pieces → Holds p (placed_in kept.pieces) q → Changes p old q (with_new old kept)
Changes-join p old kept q on copies h = record {
  sizes = h.sizes;
  pieces =
      subst (λ size. ArePieces size (old.next + 1) (pieces_of (with_new old kept))) (sym h.sizes.bytes)
      (ArePieces-copies p.block_size old.next (old.next + 1) (pieces_of old) (pieces_of (with_new old kept)) on.pieces (omega arith) each);
  counts = λ b. omega (arith, h.counts b, places-with_new b old kept);
  fresh = λ b some none.
      let copied : 0 < places_of b (placed_in kept.pieces) = omega (arith, places-with_new b old kept) in
      absurd (omega (arith, copies-stand old kept.pieces copies b copied));
}
  where
    each : (x : Piece) → Contains (pieces_of (with_new old kept)) x → IsCopyIn (pieces_of old) x
    each x c = elim (Contains-with_new old kept x c) [ inl before ↦ (x, before, refl) | inr here ↦ copies x here ]

-- the stored book with the joined upload
pub HoldsPieces-join : (p : Blocks) (stored_tenants : List StoredTenant) (t : ℕ) (old : StoredTenant) (kept : StoredUpload) (q : Blocks) → HoldsPieces p stored_tenants → IsStoredTenant stored_tenants t old → AreCopies old kept.pieces → Holds p (placed_in kept.pieces) q → HoldsPieces q (set stored_tenants t (with_new old kept))
HoldsPieces-join p stored_tenants t old kept q stored stored_tenant copies h =
    HoldsPieces-changed p stored_tenants t old q (with_new old kept) stored stored_tenant (Changes-join p old kept q (IsStoredOn-stored_tenant p stored_tenants t old stored stored_tenant) copies h)

-- the tenant pays nothing for it
pub join-charge : (p : Blocks) (stored_tenants : List StoredTenant) (t : ℕ) (old : StoredTenant) (kept : StoredUpload) (q : Blocks) → HoldsPieces p stored_tenants → IsStoredTenant stored_tenants t old → AreCopies old kept.pieces → Holds p (placed_in kept.pieces) q
    → charge_on p.block_size (with_new old kept) ≡ charge_on p.block_size old
join-charge p stored_tenants t old kept q stored stored_tenant copies h =
    let change : Changes p old q (with_new old kept) = Changes-join p old kept q (IsStoredOn-stored_tenant p stored_tenants t old stored stored_tenant) copies h in
    stays _ _ _ _ (charge-changed p stored_tenants t old q (with_new old kept) stored stored_tenant change) h.free
  where
    stays : (f g a b : ℕ) → g + b ≡ f + a → g ≡ f → b ≡ a
    stays f g a b change free = omega arith

-- a tenant has as many pieces as its uploads have together
pub pieces-few : (old : StoredTenant) (most : ℕ) → All (λ e. length e.kept.pieces ≤ most) old.uploads → length (pieces_of old) ≤ length old.uploads * most
pieces-few old most few =
    omega (arith, length-flat_map kept_pieces old.uploads, sum_by-le (λ (e : Entry StoredUpload). length e.kept.pieces) most old.uploads few)

-- copies may be held where there are few pieces
pub MayHold-copies : (p : Blocks) (old : StoredTenant) (copies : List Piece) → IsStoredOn p old → AreCopies old copies → length (pieces_of old) + length copies < 2 ^ 64 → MayHold p (placed_in copies)
MayHold-copies p old copies on are few = record {
  held = λ b some. omega (arith, copies-stand old copies are b some, places_on-held p old on b);
  fits = λ b some.
      let count : count_at p b ≡ places_on b old = on.counts b (copies-stand old copies are b some) in
      let old_few : places_on b old ≤ length (pieces_of old) = places-few b (pieces_of old) (λ x c. (on.pieces.each x c).once.once b) in
      let new_few : places_of b (placed_in copies) ≤ length copies =
      places-few b copies (λ x c.
      let z = are x c in
      let same : places_of b x.chain.blocks ≡ places_of b z.0.chain.blocks = ap (λ (s : Segment). places_of b s.blocks) z.2 in
      omega (arith, (on.pieces.each z.0 z.1).once.once b)) in
      omega arith;
}

-- so with at most 65,536 uploads of at most 32 pieces, and at most 32 copies
pub MayHold-join : (p : Blocks) (old : StoredTenant) (copies : List Piece) → IsStoredOn p old → AreCopies old copies → length old.uploads ≤ 65536 → All (λ e. length e.kept.pieces ≤ 32) old.uploads → length copies ≤ 32 → MayHold p (placed_in copies)
MayHold-join p old copies on are uploads pieces few = MayHold-copies p old copies on are (omega (arith, pieces-few old 32 pieces))
