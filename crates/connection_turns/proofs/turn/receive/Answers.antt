use Rattle.std.proofs.Common.{subst}
use Rattle.std.specs.Io.KnownBytes.{Consumes}
use Rattle.connection_turns.proofs.TurnLemmas.{History-read}
use Rattle.connection_turns.proofs.turn.receive.Goals as goal

pub returns-clause-takes : goal.returns-clause-takes
returns-clause-takes g c p h =
    let read = c.read_from-read.ensures in
    let t = History-read c.read_from-read.result _ _ _ _ read.takes read.none read.kept p h in (
      t.0,
      subst (λ r. Consumes (g.R.Read.remaining r) (g.R.Read.remaining c.read_from-read.new.reader.inner) t.0) c.new-tapped.ensures.inner t.1,
      c.step_of_read-step.ensures.history _ t.2,
    )
