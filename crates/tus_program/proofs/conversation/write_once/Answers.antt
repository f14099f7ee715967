use Rattle.connection_turns.proofs.TurnLemmas.{History-written}
use Rattle.tus_program.proofs.conversation.write_once.Goals as goal

pub returns-in-Ok-clause-gives : goal.returns-in-Ok-clause-gives
returns-in-Ok-clause-gives g c p h = History-written c.write_to.result _ _ _ _ c.write_to.ensures.wrote c.write_to.ensures.none p h

pub returns-in_default-clause-gives : goal.returns-in_default-clause-gives
returns-in_default-clause-gives g c p h = History-written c.write_to.result _ _ _ _ c.write_to.ensures.wrote c.write_to.ensures.none p h

pub returns-in_default-2-clause-gives : goal.returns-in_default-2-clause-gives
returns-in_default-2-clause-gives g c p h = History-written c.write_to.result _ _ _ _ c.write_to.ensures.wrote c.write_to.ensures.none p h
