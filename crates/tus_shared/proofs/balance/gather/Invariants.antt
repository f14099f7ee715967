use Rattle.std.specs.List.{All}
use mathlib.Core.List.{IsPrefix}
use Rattle.tus_shared.specs.Desk.{Desk}
use Rattle.tus_shared.proofs.SharesLemmas.{IsLeft}
use Rattle.tus_shared.proofs.balance.gather.Given as goal

abbrev pub invariant-loop-desk : goal.invariant-loop-desk
invariant-loop-desk g l =
    (All (λ (d : Desk). IsPrefix d.seen l.fn.board.events) l.desk-iterator.rest.items → All (λ (d : Desk). IsPrefix d.seen l.fn.board.events) l.fn.desks.items)
    × IsLeft (λ (d : Desk). d.charged) l.initial.charged.parts l.initial.charged.amount l.fn.desks.items l.desk-iterator.rest.items l.charged.parts l.charged.amount
    × IsLeft (λ (d : Desk). d.released) l.initial.released.parts l.initial.released.amount l.fn.desks.items l.desk-iterator.rest.items l.released.parts l.released.amount
    × IsLeft (λ (d : Desk). d.made) l.initial.made.parts l.initial.made.amount l.fn.desks.items l.desk-iterator.rest.items l.made.parts l.made.amount
