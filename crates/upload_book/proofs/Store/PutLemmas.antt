-- Bytes are put at the end of an upload that is not final, and whose origin no other piece has.
use Rattle.std.proofs.Common.{◌≡◌, ◌≢◌, ◌⊎◌, ℕ, ◌+◌, ◌-◌, ◌*◌, ◌<◌, ◌≤◌, List, [], ◌∷◌, length, get_or, set, refl, inl, inr, ap, sym, subst, ◌∙◌, arith}
use Rattle.std.specs.List.{Contains}
use Rattle.std.proofs.lemmas.Bool.{cases_lt}
use Rattle.block_pool.specs.Blocks.{Blocks, count_at, places_of}
use Rattle.block_pool.proofs.BlocksLaws.{places_of-append, places_of-at}
use Rattle.block_bodies.specs.Bodies.{Chain, IsBodyOf, IsLastOwn}
use Rattle.block_bodies.specs.Changes.{Puts}
use Rattle.upload_book.specs.declared.pieces.Piece.{Piece}
use Rattle.upload_book.specs.Stored.{StoredTenant, StoredUpload, pieces_of, placed_in, places_on, charge_on, Agree, IsPiece, HoldsPieces}
use Rattle.upload_book.specs.TenantBook.{Entry}
use Rattle.upload_book.proofs.Charge.InUse.{places-within, places-found, Contains-first, Contains-cases, Contains-none}
use Rattle.upload_book.proofs.Store.Pieces.{IsEntry, with_entry, without, places_at, places-without, places-with_entry, Contains-entry, Contains-without, Contains-with_entry}
use Rattle.upload_book.proofs.Store.PutOnce.{put-once}
use Rattle.upload_book.proofs.Store.StoredTenants.{IsStoredTenant, IsStoredOn, IsStoredOn-stored_tenant, places_on-held, Changes, HoldsPieces-changed, charge-changed}
use Rattle.upload_book.proofs.Store.GoneLemmas.{piece-body}

-- the one piece of an upload that is not final
abbrev pub own_piece : ℕ → Chain → Piece
own_piece id x = record { origin = id; chain = x }

-- no piece elsewhere on the stored part has this id as its origin
pub record IsAlone (old : StoredTenant) (i id : ℕ) : Type 0 where
  pub others : (z : Piece) → Contains (pieces_of (without old i)) z → z.origin ≢ id

-- its piece is the tenant's
pub own-contained : (old : StoredTenant) (i : ℕ) (e : Entry StoredUpload) (x : Chain) → IsEntry old i e → e.kept.pieces ≡ own_piece e.id x ∷ [] → Contains (pieces_of old) (own_piece e.id x)
own-contained old i e x is own =
    Contains-entry old i e (own_piece e.id x) is (subst (λ pieces. Contains pieces (own_piece e.id x)) (sym own) (Contains-first (own_piece e.id x) []))

-- a block stands with it as often as in its body
pub own-places : (b : ℕ) (e : Entry StoredUpload) (id : ℕ) (x : Chain) → e.kept.pieces ≡ own_piece id x ∷ [] → places_at b e ≡ places_of b x.blocks
own-places b e id x own = ap (λ pieces. places_of b (placed_in pieces)) own ∙ both _ _ (places_of-append b x.blocks []) where
  both : (n m : ℕ) → n ≡ m + 0 → n ≡ m
  both n m same = omega arith

-- the body of an upload that is not final is one
pub own-body : (p : Blocks) (old : StoredTenant) (i : ℕ) (e : Entry StoredUpload) (x : Chain) → IsStoredOn p old → IsEntry old i e → e.kept.pieces ≡ own_piece e.id x ∷ [] → IsBodyOf p x
own-body p old i e x on is own = piece-body p old (own_piece e.id x) on (own-contained old i e x is own)

-- a block of it stands with no other entry
own-elsewhere : (p : Blocks) (old : StoredTenant) (i : ℕ) (e : Entry StoredUpload) (x : Chain) → IsStoredOn p old → IsEntry old i e → e.kept.pieces ≡ own_piece e.id x ∷ [] → IsAlone old i e.id → (b : ℕ) → 0 < places_of b x.blocks → places_on b (without old i) ≡ 0
own-elsewhere p old i e x on is own alone b some = elim (cases_lt 0 (places_on b (without old i))) [
  | inr none ↦ omega arith
  | inl again ↦
      let z = places-found b (pieces_of (without old i)) again in
      let agree : Agree (own_piece e.id x) z.0 = on.pieces.agree (own_piece e.id x) z.0 (own-contained old i e x is own) (Contains-without old i z.0 z.1) in
      absurd (alone.others z.0 z.1 (sym (agree.apart b some z.2)))
]

-- each block of it is held once
pub own-count : (p : Blocks) (old : StoredTenant) (i : ℕ) (e : Entry StoredUpload) (x : Chain) → IsStoredOn p old → IsEntry old i e → e.kept.pieces ≡ own_piece e.id x ∷ [] → IsAlone old i e.id → (b : ℕ) → 0 < places_of b x.blocks → count_at p b ≡ 1
own-count p old i e x on is own alone b some =
    let once : places_of b x.blocks ≤ 1 = (on.pieces.each (own_piece e.id x) (own-contained old i e x is own)).once.once b in
    let here : places_on b old ≡ 1 =
    omega (arith, places-without b old i e is, own-places b e e.id x own, own-elsewhere p old i e x on is own alone b some) in
    on.counts b (omega arith) ∙ here

-- so is the last one
pub own-last : (p : Blocks) (old : StoredTenant) (i : ℕ) (e : Entry StoredUpload) (x : Chain) → IsStoredOn p old → IsEntry old i e → e.kept.pieces ≡ own_piece e.id x ∷ [] → IsAlone old i e.id → IsLastOwn p x
own-last p old i e x on is own alone = record {
  own = λ l. own-count p old i e x on is own alone (get_or x.blocks (length x.blocks - 1) 0) (places_of-at (length x.blocks - 1) x.blocks (inside x.len (length x.blocks) p.block_size l));
}
  where
    inside : (len n size : ℕ) → len < n * size → n - 1 < n
    inside len n size l = elim (cases_lt 0 n) [
      | inl some ↦ omega arith
      | inr none ↦
          let zero_blocks : n ≡ 0 = omega arith in
          let nothing : n * size ≡ 0 = rw zero_blocks (omega arith) in
          absurd (omega arith)
    ]

-- what putting bytes at its end does to the stored part
pub Changes-put : (p : Blocks) (old : StoredTenant) (i : ℕ) (e new : Entry StoredUpload) (x : Chain) (bytes : List ℕ) (q : Blocks) (y : Chain) → IsStoredOn p old → IsEntry old i e → e.kept.pieces ≡ own_piece e.id x ∷ [] → IsAlone old i e.id
    → Puts p x bytes q y → new.kept.pieces ≡ own_piece e.id y ∷ [] → Changes p old q (with_entry old i new)
Changes-put p old i e new x bytes q y on is own alone f put = record {
  sizes = f.sizes;
  pieces = record { each = each; agree = agree };
  counts = λ b. omega (arith, f.counts b, places-with_entry b old i e new is, own-places b e e.id x own, own-places b new e.id y put);
  fresh = λ b some none.
      let all : places_on b (with_entry old i new) + places_of b x.blocks ≡ places_on b old + places_of b y.blocks =
      omega (arith, places-with_entry b old i e new is, own-places b e e.id x own, own-places b new e.id y put) in
      let within : places_of b x.blocks ≤ places_on b old = places-within b (pieces_of old) (own_piece e.id x) (own-contained old i e x is own) in
      f.fresh b (omega arith);
}
  where
    -- a piece is the new one, or was there
    cases : (z : Piece) → Contains (pieces_of (with_entry old i new)) z → (own_piece e.id y ≡ z) ⊎ Contains (pieces_of (without old i)) z
    cases z c = elim (Contains-with_entry old i new z is.within c) [
      | inr rest ↦ inr rest
      | inl here ↦ elim (Contains-cases (own_piece e.id y) z [] (subst (λ pieces. Contains pieces z) put here)) [
        | inl same ↦ inl same
        | inr none ↦ absurd (Contains-none z none)
      ]
    ]

    mine : IsPiece q.block_size old.next (own_piece e.id y)
    mine = record {
      given = (on.pieces.each (own_piece e.id x) (own-contained old i e x is own)).given;
      blocks = f.body.blocks;
      once = put-once p x bytes q y f (own-body p old i e x on is own) (on.pieces.each (own_piece e.id x) (own-contained old i e x is own)).once;
    }

    each : (z : Piece) → Contains (pieces_of (with_entry old i new)) z → IsPiece q.block_size old.next z
    each z c = elim (cases z c) [
      | inl same ↦ subst (IsPiece q.block_size old.next) same mine
      | inr rest ↦ subst (λ size. IsPiece size old.next z) (sym f.sizes.bytes) (on.pieces.each z (Contains-without old i z rest))
    ]

    -- the new piece and another have no block in common
    apart : (z : Piece) → Contains (pieces_of (without old i)) z → (b : ℕ) → 0 < places_of b y.blocks → 0 < places_of b z.chain.blocks → ⊥
    apart z rest b some there = elim (cases_lt 0 (places_of b x.blocks)) [
      | inl before ↦
          let nowhere : places_on b (without old i) ≡ 0 = own-elsewhere p old i e x on is own alone b before in
          omega (arith, places-within b (pieces_of (without old i)) z rest)
      | inr new_block ↦
          let free : count_at p b ≡ 0 = f.fresh b (omega arith) in
          omega (arith, places-within b (pieces_of old) z (Contains-without old i z rest), places_on-held p old on b)
    ]

    mine-other : (z : Piece) → Contains (pieces_of (without old i)) z → Agree (own_piece e.id y) z
    mine-other z rest = record {
      blocks = λ same. absurd (alone.others z rest (sym same));
      len = λ same. absurd (alone.others z rest (sym same));
      apart = λ b some there. absurd (apart z rest b some there);
    }

    other-mine : (z : Piece) → Contains (pieces_of (without old i)) z → Agree z (own_piece e.id y)
    other-mine z rest = record {
      blocks = λ same. absurd (alone.others z rest same);
      len = λ same. absurd (alone.others z rest same);
      apart = λ b there some. absurd (apart z rest b some there);
    }

    agree : (v w : Piece) → Contains (pieces_of (with_entry old i new)) v → Contains (pieces_of (with_entry old i new)) w → Agree v w
    agree v w c d = elim (cases v c) [
      | inl same ↦ elim (cases w d) [
        | inl same' ↦ subst (λ v. Agree v w) same (subst (Agree (own_piece e.id y)) same' (record { blocks = λ e. refl; len = λ e. refl; apart = λ b some some'. refl }))
        | inr rest ↦ subst (λ v. Agree v w) same (mine-other w rest)
      ]
      | inr rest ↦ elim (cases w d) [
        | inl same ↦ subst (Agree v) same (other-mine v rest)
        | inr rest' ↦ on.pieces.agree v w (Contains-without old i v rest) (Contains-without old i w rest')
      ]
    ]

-- the stored book with the bytes
pub HoldsPieces-put : (p : Blocks) (stored_tenants : List StoredTenant) (t : ℕ) (old : StoredTenant) (i : ℕ) (e new : Entry StoredUpload) (x : Chain) (bytes : List ℕ) (q : Blocks) (y : Chain) → HoldsPieces p stored_tenants → IsStoredTenant stored_tenants t old → IsEntry old i e → e.kept.pieces ≡ own_piece e.id x ∷ [] → IsAlone old i e.id
    → Puts p x bytes q y → new.kept.pieces ≡ own_piece e.id y ∷ [] → HoldsPieces q (set stored_tenants t (with_entry old i new))
HoldsPieces-put p stored_tenants t old i e new x bytes q y kept stored_tenant is own alone f put =
    HoldsPieces-changed p stored_tenants t old q (with_entry old i new) kept stored_tenant (Changes-put p old i e new x bytes q y (IsStoredOn-stored_tenant p stored_tenants t old kept stored_tenant) is own alone f put)

-- the tenant pays for the new body in place of the old one
pub put-charge : (p : Blocks) (stored_tenants : List StoredTenant) (t : ℕ) (old : StoredTenant) (i : ℕ) (e new : Entry StoredUpload) (x : Chain) (bytes : List ℕ) (q : Blocks) (y : Chain) → HoldsPieces p stored_tenants → IsStoredTenant stored_tenants t old → IsEntry old i e → e.kept.pieces ≡ own_piece e.id x ∷ [] → IsAlone old i e.id
    → Puts p x bytes q y → new.kept.pieces ≡ own_piece e.id y ∷ []
    → charge_on p.block_size (with_entry old i new) + length x.blocks ≡ charge_on p.block_size old + length y.blocks
put-charge p stored_tenants t old i e new x bytes q y kept stored_tenant is own alone f put =
    let change : Changes p old q (with_entry old i new) = Changes-put p old i e new x bytes q y (IsStoredOn-stored_tenant p stored_tenants t old kept stored_tenant) is own alone f put in
    more _ _ _ _ _ _ (charge-changed p stored_tenants t old q (with_entry old i new) kept stored_tenant change) f.free
  where
    more : (f g a b n m : ℕ) → g + b ≡ f + a → g + m ≡ f + n → b + n ≡ a + m
    more f g a b n m change free = omega arith
