use Rattle.block_bodies.proofs.BodiesLaws.{MayHold-parts, Holds-parts, IsHeld-parts, GivesBack-parts}
use Rattle.block_bodies.proofs.laws.lists_in_parts.Goals as goal

pub returns-clause-may_hold : goal.returns-clause-may_hold
returns-clause-may_hold c = MayHold-parts

pub returns-clause-holds : goal.returns-clause-holds
returns-clause-holds c = Holds-parts

pub returns-clause-is_held : goal.returns-clause-is_held
returns-clause-is_held c = IsHeld-parts

pub returns-clause-gives_back : goal.returns-clause-gives_back
returns-clause-gives_back c = GivesBack-parts
