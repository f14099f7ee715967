use Rattle.block_bodies.specs.Bodies.{IsLastOwn}
use Rattle.block_tests.specs.Sole.{IsSole}
use Rattle.block_tests.proofs.bodies.like_a_plain_list.Given as goal

abbrev pub invariant-loop-n : goal.invariant-loop-n
invariant-loop-n g l = record { sole : IsSole l.pool l.body; last : IsLastOwn l.pool l.body }
