use Rattle.std.proofs.Common.{◌≡◌, List, [], ◌∷◌, ◌++◌, map, length, sym, ap, ◌∙◌, subst, arith, append_assoc}
use Rattle.std.proofs.lemmas.List.{map-append}
use Rattle.block_bodies.specs.Changes.{Holds, MayHold}
use Rattle.upload_book.specs.declared.pieces.Piece.{Piece}
use Rattle.upload_book.specs.declared.pieces.UnheldPiece.{UnheldPiece}
use Rattle.upload_book.specs.Stored.{placed_in}
use Rattle.upload_book.specs.inside.Pieces.{as_piece}
use Rattle.upload_book.proofs.Store.JoinedLemmas.{MayHold-next, Holds-next}
use Rattle.upload_book.proofs.pieces.hold_each.Goals as goal

pub hold-requires : goal.hold-requires
hold-requires c =
    let all : map as_piece c.loop-piece.yielded ++ as_piece c.in-Some.piece ∷ map as_piece c.next.new.self.rest.items ≡ map as_piece c.args.unheld.items =
    sym (map-append as_piece c.loop-piece.yielded (c.in-Some.piece ∷ c.next.new.self.rest.items))
    ∙ ap (λ (rest : List UnheldPiece). map as_piece (c.loop-piece.yielded ++ rest)) (sym c.in-Some.ensures.steps.0) ∙ ap (map as_piece) c.loop-piece.invariant.all in
    MayHold-next c.args.pool.now c.loop-piece.pool (map as_piece c.loop-piece.yielded) (as_piece c.in-Some.piece) (map as_piece c.next.new.self.rest.items)
    (subst (λ (pieces : List Piece). MayHold c.args.pool.now (placed_in pieces)) (sym all) c.requires.held) c.loop-piece.invariant.holds

pub loop-piece-preserved : goal.loop-piece-preserved
loop-piece-preserved c =
    let more : map as_piece c.loop-piece.yielded ++ as_piece c.in-Some.piece ∷ [] ≡ map as_piece (c.loop-piece.yielded ++ c.in-Some.piece ∷ []) = sym (map-append as_piece c.loop-piece.yielded (c.in-Some.piece ∷ [])) in
    record {
      all = append_assoc c.loop-piece.yielded (c.in-Some.piece ∷ []) c.next.new.self.rest.items ∙ ap (λ (rest : List UnheldPiece). c.loop-piece.yielded ++ rest) (sym c.in-Some.ensures.steps.0) ∙ c.loop-piece.invariant.all;
      pieces = c.push_reserved.ensures.items ∙ ap (λ (pieces : List Piece). pieces ++ record { origin = c.in-Some.piece.origin; chain = c.hold.result } ∷ []) c.loop-piece.invariant.pieces
          ∙ append_assoc c.args.pieces.now.items (map as_piece c.loop-piece.yielded) _
          ∙ ap (λ (x : Piece). c.args.pieces.now.items ++ (map as_piece c.loop-piece.yielded ++ x ∷ [])) (ap (λ chain. record { origin = c.in-Some.piece.origin; chain = chain }) c.hold.ensures.body)
          ∙ ap (λ (pieces : List Piece). c.args.pieces.now.items ++ pieces) more;
      room = omega (arith, c.push_reserved.ensures.len, c.push_reserved.ensures.capacity, c.loop-piece.invariant.room, ap (length {A = UnheldPiece}) c.in-Some.ensures.steps.0);
      holds = subst (λ (pieces : List Piece). Holds c.args.pool.now (placed_in pieces) c.hold.new.pool) more (Holds-next c.args.pool.now c.loop-piece.pool c.hold.new.pool (map as_piece c.loop-piece.yielded) (as_piece c.in-Some.piece) c.loop-piece.invariant.holds c.hold.ensures.holds);
    }
