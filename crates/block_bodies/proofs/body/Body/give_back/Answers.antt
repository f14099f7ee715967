use Rattle.std.proofs.Common.{◌-◌, ℕ, List, arith, subst}
use Rattle.block_pool.specs.Blocks.{free_in}
use Rattle.block_bodies.specs.Changes.{GivesBack}
use Rattle.block_bodies.proofs.body.Body.give_back.Goals as goal

pub overflow_sub-free : goal.overflow_sub-free
overflow_sub-free c = omega (arith, c.free.ensures, c.free-before.ensures, c.release_each.ensures.free)

pub returns : goal.returns
returns c =
    rw (← c.self.view_is, c.from.ensures, c.free.ensures, c.free-before.ensures)
    (subst (λ (list : List ℕ). GivesBack c.args.pool.now list (free_in c.release_each.new.pool - free_in c.args.pool.now) c.release_each.new.pool) (cc) c.release_each.ensures)
