-- One more piece at the end of a tenant's: a copy of one that it has, or one whose bytes are brought.
use Rattle.std.proofs.Common.{◌≡◌, ◌≢◌, ◌⊎◌, ℕ, ◌+◌, ◌<◌, ◌≤◌, List, [], ◌∷◌, ◌++◌, refl, inl, inr, ap, sym, subst, ◌∙◌, arith}
use Rattle.std.specs.List.{Contains}
use Rattle.std.proofs.lemmas.List.Elements.{Contains-push_cases}
use Rattle.block_pool.specs.Blocks.{Blocks, count_at, places_of}
use Rattle.block_pool.proofs.BlocksLaws.{places_of-append}
use Rattle.block_bodies.specs.Bodies.{Chain, StandsOnce}
use Rattle.block_bodies.specs.Changes.{Holds, Puts}
use Rattle.upload_book.specs.declared.pieces.Piece.{Piece}
use Rattle.upload_book.specs.inside.Pieces.{no_chain}
use Rattle.upload_book.specs.Stored.{Agree, ArePieces, IsPiece, Segment, StoredTenant, pieces_of, placed_in, places_on}
use Rattle.upload_book.proofs.Charge.InUse.{places-within}
use Rattle.upload_book.proofs.Store.Pieces.{ArePieces-copies, IsCopyIn, places-joined}
use Rattle.upload_book.proofs.Store.PutLemmas.{own_piece}
use Rattle.upload_book.proofs.Store.StoredTenants.{Changes, IsStoredOn, places_on-held}

-- a part with one more piece, of which no id is given again
pub record HasOneMore (old : StoredTenant) (x : Piece) (new : StoredTenant) : Type 0 where
  pub pieces : pieces_of new ≡ pieces_of old ++ x ∷ []
  pub next : old.next ≤ new.next

-- a block stands in it as often as before and in the piece
places-one : (b : ℕ) (old : StoredTenant) (x : Piece) (new : StoredTenant) → HasOneMore old x new → places_on b new ≡ places_on b old + places_of b x.chain.blocks
places-one b old x new is =
    let here : places_of b (placed_in (x ∷ [])) ≡ places_of b x.chain.blocks = (let both : places_of b (x.chain.blocks ++ []) ≡ places_of b x.chain.blocks + places_of b [] = places_of-append b x.chain.blocks [] in omega (arith, both)) in
    ap (λ pieces. places_of b (placed_in pieces)) is.pieces ∙ places-joined b (pieces_of old) (x ∷ []) ∙ ap (λ n. places_on b old + n) here

one-cases : (old : StoredTenant) (x : Piece) (new : StoredTenant) → HasOneMore old x new → (z : Piece) → Contains (pieces_of new) z → Contains (pieces_of old) z ⊎ (x ≡ z)
one-cases old x new is z c = Contains-push_cases (pieces_of old) x z (subst (λ pieces. Contains pieces z) is.pieces c)

-- one that is a copy is held once more
pub Changes-held : (p : Blocks) (old : StoredTenant) (x : Piece) (q : Blocks) (new : StoredTenant) → IsStoredOn p old → HasOneMore old x new → IsCopyIn (pieces_of old) x → Holds p x.chain.blocks q → Changes p old q new
Changes-held p old x q new on is copy h = record {
  sizes = h.sizes;
  pieces =
      subst (λ size. ArePieces size new.next (pieces_of new)) (sym h.sizes.bytes)
      (ArePieces-copies p.block_size old.next new.next (pieces_of old) (pieces_of new) on.pieces is.next each);
  counts = λ b. omega (arith, h.counts b, places-one b old x new is);
  fresh = λ b some none.
      let z = copy in
      let same : places_of b x.chain.blocks ≡ places_of b z.0.chain.blocks = ap (λ (s : Segment). places_of b s.blocks) z.2 in
      absurd (omega (arith, places-one b old x new is, same, places-within b (pieces_of old) z.0 z.1));
}
  where
    each : (z : Piece) → Contains (pieces_of new) z → IsCopyIn (pieces_of old) z
    each z c = elim (one-cases old x new is z c) [ inl before ↦ (z, before, refl) | inr last ↦ subst (IsCopyIn (pieces_of old)) last copy ]

-- one whose bytes are brought, of an origin of which no piece is
pub Changes-brought : (p : Blocks) (old : StoredTenant) (origin : ℕ) (bytes : List ℕ) (q : Blocks) (y : Chain) (new : StoredTenant) → IsStoredOn p old → HasOneMore old (own_piece origin y) new → origin < new.next
    → ((z : Piece) → Contains (pieces_of old) z → z.origin ≢ origin) → Puts p no_chain bytes q y → StandsOnce y.blocks → Changes p old q new
Changes-brought p old origin bytes q y new on is given alone f once = record {
  sizes = f.sizes;
  pieces = record { each = each; agree = agree };
  counts = λ b. omega (arith, f.counts b, none b, places-one b old (own_piece origin y) new is);
  fresh = λ b some before. f.fresh b (omega (arith, none b, places-one b old (own_piece origin y) new is));
}
  where
    none : (b : ℕ) → places_of b no_chain.blocks ≡ 0
    none b = refl

    each : (z : Piece) → Contains (pieces_of new) z → IsPiece q.block_size new.next z
    each z c = elim (one-cases old (own_piece origin y) new is z c) [
      | inl before ↦
          let there = on.pieces.each z before in
          subst (λ size. IsPiece size new.next z) (sym f.sizes.bytes) (record { given = omega (arith, there.given, is.next); blocks = there.blocks; once = there.once })
      | inr last ↦ subst (IsPiece q.block_size new.next) last (record { given = given; blocks = f.body.blocks; once = once })
    ]

    -- the new piece and another have no block in common
    apart : (z : Piece) → Contains (pieces_of old) z → (b : ℕ) → 0 < places_of b y.blocks → 0 < places_of b z.chain.blocks → ⊥
    apart z before b some there =
        let free : count_at p b ≡ 0 = f.fresh b (omega (arith, none b)) in
        omega (arith, places-within b (pieces_of old) z before, places_on-held p old on b)

    mine-other : (z : Piece) → Contains (pieces_of old) z → Agree (own_piece origin y) z
    mine-other z before = record {
      blocks = λ same. absurd (alone z before (sym same));
      len = λ same. absurd (alone z before (sym same));
      apart = λ b some there. absurd (apart z before b some there);
    }

    other-mine : (z : Piece) → Contains (pieces_of old) z → Agree z (own_piece origin y)
    other-mine z before = record {
      blocks = λ same. absurd (alone z before same);
      len = λ same. absurd (alone z before same);
      apart = λ b there some. absurd (apart z before b some there);
    }

    agree : (v w : Piece) → Contains (pieces_of new) v → Contains (pieces_of new) w → Agree v w
    agree v w c d = elim (one-cases old (own_piece origin y) new is v c) [
      | inr same ↦ elim (one-cases old (own_piece origin y) new is w d) [
        | inr same' ↦ subst (λ v. Agree v w) same (subst (Agree (own_piece origin y)) same' (record { blocks = λ e. refl; len = λ e. refl; apart = λ b some some'. refl }))
        | inl before ↦ subst (λ v. Agree v w) same (mine-other w before)
      ]
      | inl before ↦ elim (one-cases old (own_piece origin y) new is w d) [
        | inr same ↦ subst (Agree v) same (other-mine v before)
        | inl before' ↦ on.pieces.agree v w before before'
      ]
    ]
