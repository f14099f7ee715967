use Rattle.std.proofs.Common.{arith}
use Rattle.std.proofs.lemmas.Bool.Decides.{nat_tests}
use Rattle.head_board.proofs.BoundLemmas.{before-none, before-some, fresh-parts}
use Rattle.head_board.proofs.head_table.HeadTable.may_expire.Goals as goal

pub returns-in-Some : goal.returns-in-Some
returns-in-Some c = λ no.
    rw (← c.self.view_is) (fresh-parts c.self.inside.first_end c.args.now c.self.inside.parts.items (before-some c.self.inside.first_end c.in-Some.end c.args.now c.in-Some.is (grind (arith, nat_tests, no))) c.self.invariant.bound)

pub returns-in-None : goal.returns-in-None
returns-in-None c = λ no.
    rw (← c.self.view_is) (fresh-parts c.self.inside.first_end c.args.now c.self.inside.parts.items (before-none c.self.inside.first_end c.args.now c.in-None.is) c.self.invariant.bound)
