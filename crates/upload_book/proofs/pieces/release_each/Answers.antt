use Rattle.std.proofs.Common.{◌≡◌, List, [], ◌∷◌, ◌++◌, sym, ap, ◌∙◌, subst, append_assoc}
use Rattle.block_bodies.specs.Bodies.{IsHeld}
use Rattle.block_bodies.proofs.EachBlock.{GivesBack-none}
use Rattle.upload_book.specs.declared.pieces.Piece.{Piece}
use Rattle.upload_book.specs.Stored.{placed_in}
use Rattle.upload_book.proofs.Store.JoinedLemmas.{IsHeld-next, GivesBack-next}
use Rattle.upload_book.proofs.pieces.release_each.Goals as goal

pub loop-piece-init : goal.loop-piece-init
loop-piece-init c = record { all = c.into_iter-piece-iterator.ensures.into_iter_gives.0; gives = GivesBack-none c.args.pool.now }

pub give_back-requires : goal.give_back-requires
give_back-requires c =
    let all : c.loop-piece.yielded ++ c.in-Some.piece ∷ c.next.new.self.rest.items ≡ c.args.pieces.items =
    ap (λ (rest : List Piece). c.loop-piece.yielded ++ rest) (sym c.in-Some.ensures.steps.0) ∙ c.loop-piece.invariant.all in
    IsHeld-next c.args.pool.now c.loop-piece.pool c.loop-piece.yielded c.in-Some.piece c.next.new.self.rest.items _ (subst (λ (pieces : List Piece). IsHeld c.args.pool.now (placed_in pieces)) (sym all) c.requires) c.loop-piece.invariant.gives

pub loop-piece-preserved : goal.loop-piece-preserved
loop-piece-preserved c = record {
  all = append_assoc c.loop-piece.yielded (c.in-Some.piece ∷ []) c.next.new.self.rest.items ∙ ap (λ (rest : List Piece). c.loop-piece.yielded ++ rest) (sym c.in-Some.ensures.steps.0) ∙ c.loop-piece.invariant.all;
  gives = GivesBack-next c.args.pool.now c.loop-piece.pool c.give_back.new.pool c.loop-piece.yielded c.in-Some.piece _ _ c.loop-piece.invariant.gives c.give_back.ensures;
}
