use Rattle.std.proofs.Common.{ℕ, List, sym, subst}
use Rattle.block_bodies.specs.Changes.{Holds, MayHold}
use Rattle.block_bodies.proofs.body.Body.share.Goals as goal

pub hold-requires : goal.hold-requires
hold-requires c = subst (λ (list : List ℕ). MayHold c.args.pool.now list) (sym c.in_ok-list.ensures.blocks) c.requires

pub returns-clause-holds : goal.returns-clause-holds
returns-clause-holds c =
    subst (λ (list : List ℕ). Holds c.args.pool.now list c.hold.new.pool) c.in_ok-list.ensures.blocks c.hold.ensures.holds
