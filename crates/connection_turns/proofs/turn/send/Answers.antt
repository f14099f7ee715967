use Rattle.std.proofs.Common.{subst}
use Rattle.std.specs.Io.KnownBytes.{Appends}
use Rattle.connection_turns.proofs.TurnLemmas.{History-written}
use Rattle.connection_turns.proofs.turn.send.Goals as goal

pub returns-clause-gives : goal.returns-clause-gives
returns-clause-gives g c p h =
    let t = History-written c.write_to-written.result _ _ _ _ c.write_to-written.ensures.wrote c.write_to-written.ensures.none p h in (
      t.0,
      subst (λ w. Appends (g.W.Write.contents w) (g.W.Write.contents c.write_to-written.new.writer.inner) t.0) c.new-tapped.ensures.inner t.1,
      t.2,
    )
