use Rattle.std.proofs.Common.{rules}
use Rattle.http_wire.proofs.HistoryLemmas.{History-start}
use Rattle.http_wire.proofs.PhaseLemmas.{IsConnection-start}
use Rattle.http_wire.proofs.connection.Connection.by_pieces.Goals as goal

pub invariant_of-result : goal.invariant_of-result
invariant_of-result c = IsConnection-start _ _ _ _ c.requires.limits c.requires.some c.start.ensures

pub returns-clause-begins : goal.returns-clause-begins
returns-clause-begins c = History-start _ (search rules)
