use Rattle.std.proofs.Common.{◌≡◌, ℕ, ◌≤◌, leb, false, List, length, ap, subst, arith}
use Rattle.std.specs.Bool.{IsTrue}
use Rattle.std.proofs.lemmas.Bool.Decides.{nat_tests}
use mathlib.Core.List.{IsPrefix}
use Rattle.head_board.specs.Event.{Event}
use Rattle.head_board.proofs.LogLemmas.{prefix_fits, prefix_shorter}
use Rattle.head_board.proofs.event_log.SeenEvents.begins.Goals as goal

no_longer : (a b : ℕ) → IsTrue (leb a b) → a ≤ b
no_longer a b less = grind (arith, nat_tests)

is_longer : (a b : ℕ) → leb a b ≡ false → a ≤ b → ⊥
is_longer a b more less = grind (arith, nat_tests)

pub returns-clause-begins : goal.returns-clause-begins
returns-clause-begins c =
    let both = c.learn.new.self.log in
    let this : IsPrefix c.self.inside.seen.log both = subst (λ (l : List Event). IsPrefix l both) (ap (λ s. s.log) c.again-both.ensures) c.learn.ensures.2 in
    rw (← c.self.view_is, ← c.other.view_is) (λ less_is.
    let less : length c.self.inside.seen.log ≤ length c.other.inside.seen.log = omega (arith, no_longer c.self.inside.count c.other.inside.count less_is, c.self.invariant, c.other.invariant) in
    prefix_shorter c.self.inside.seen.log c.other.inside.seen.log both this c.learn.ensures.3 less)

pub returns-clause-more : goal.returns-clause-more
returns-clause-more c =
    rw (← c.self.view_is, ← c.other.view_is) (λ more begins.
    is_longer c.self.inside.count c.other.inside.count more (omega (arith, prefix_fits _ _ begins, c.self.invariant, c.other.invariant)))
