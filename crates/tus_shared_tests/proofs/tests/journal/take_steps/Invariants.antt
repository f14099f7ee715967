use Rattle.std.proofs.Common.{◌≡◌}
use Rattle.tus_shared_tests.proofs.tests.journal.take_steps.Given as goal

abbrev pub invariant-loop-place : goal.invariant-loop-place
invariant-loop-place g l = l.mark.book ≡ g.C.Charges.log
