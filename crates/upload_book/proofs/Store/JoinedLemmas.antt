-- Lists of pieces, one after another: their blocks are held, given back and read.
use Rattle.std.proofs.Common.{◌≡◌, ℕ, ◌+◌, ◌-◌, List, [], ◌∷◌, ◌++◌, sym, ap, ◌∙◌, subst, arith, append-nil}
use Rattle.std.proofs.lemmas.List.Concat.{flat_map-append}
use Rattle.block_pool.specs.Blocks.{Blocks, free_in, places_of}
use Rattle.block_pool.proofs.BlocksLaws.{places_of-append}
use Rattle.block_bodies.specs.Bodies.{IsHeld}
use Rattle.block_bodies.specs.Changes.{GivesBack, Holds, MayHold}
use Rattle.block_bodies.proofs.BodiesLaws.{Holds-parts, GivesBack-parts}
use Rattle.upload_book.specs.declared.pieces.Piece.{Piece}
use Rattle.upload_book.specs.Stored.{placed_in}
use Rattle.upload_book.proofs.Store.Pieces.{places-joined}

-- a block stands in pieces as often as in those before one, in that one, and in those after it
places-at_one : (b : ℕ) (xs : List Piece) (x : Piece) (rest : List Piece) → places_of b (placed_in (xs ++ x ∷ rest)) ≡ places_of b (placed_in xs) + (places_of b x.chain.blocks + places_of b (placed_in rest))
places-at_one b xs x rest =
    places-joined b xs (x ∷ rest) ∙ ap (λ n. places_of b (placed_in xs) + n) (places_of-append b x.chain.blocks (placed_in rest))

-- the blocks of one more piece stand after the others
placed-next : (xs : List Piece) (x : Piece) → placed_in xs ++ x.chain.blocks ≡ placed_in (xs ++ x ∷ [])
placed-next xs x =
    ap (λ (list : List ℕ). placed_in xs ++ list) (sym (append-nil x.chain.blocks)) ∙ sym (flat_map-append (λ (x : Piece). x.chain.blocks) xs (x ∷ []))

-- where those before a piece are held, it may be held,
pub MayHold-next : (p q : Blocks) (xs : List Piece) (x : Piece) (rest : List Piece) → MayHold p (placed_in (xs ++ x ∷ rest)) → Holds p (placed_in xs) q → MayHold q x.chain.blocks
MayHold-next p q xs x rest may h = record {
  held = λ b some. omega (arith, h.counts b, places-at_one b xs x rest, may.held b (omega (arith, some, places-at_one b xs x rest)));
  fits = λ b some. omega (arith, h.counts b, places-at_one b xs x rest, may.fits b (omega (arith, some, places-at_one b xs x rest)));
}

-- and then it is
pub Holds-next : (p q r : Blocks) (xs : List Piece) (x : Piece) → Holds p (placed_in xs) q → Holds q x.chain.blocks r → Holds p (placed_in (xs ++ x ∷ [])) r
Holds-next p q r xs x h more =
    subst (λ (list : List ℕ). Holds p list r) (placed-next xs x) (Holds-parts p q r (placed_in xs) x.chain.blocks h more)

-- where those before a piece are given back, it is still held,
pub IsHeld-next : (p q : Blocks) (xs : List Piece) (x : Piece) (rest : List Piece) (n : ℕ) → IsHeld p (placed_in (xs ++ x ∷ rest)) → GivesBack p (placed_in xs) n q → IsHeld q x.chain.blocks
IsHeld-next p q xs x rest n held g = record {
  each = λ b. omega (arith, g.counts b, places-at_one b xs x rest, held.each b);
}

-- and then it is given back
pub GivesBack-next : (p q r : Blocks) (xs : List Piece) (x : Piece) (m n : ℕ) → GivesBack p (placed_in xs) m q → GivesBack q x.chain.blocks n r → GivesBack p (placed_in (xs ++ x ∷ [])) (free_in r - free_in p) r
GivesBack-next p q r xs x m n g more =
    let freed : m + n ≡ free_in r - free_in p = omega (arith, g.free, more.free) in
    subst (λ k. GivesBack p (placed_in (xs ++ x ∷ [])) k r) freed
    (subst (λ (list : List ℕ). GivesBack p list (m + n) r) (placed-next xs x) (GivesBack-parts p q r (placed_in xs) x.chain.blocks m n g more))
