use Rattle.std.proofs.Common.{refl}
use Rattle.http_wire.proofs.AheadLemmas.{IfOk-both}
use Rattle.http_wire.proofs.HistoryLemmas.{History-sent}
use Rattle.http_wire.proofs.StageLemmas.{IfOk-from}
use Rattle.http_wire.proofs.connection.Connection.write_to.Goals as goal

pub returns-clause-wrote : goal.returns-clause-wrote
returns-clause-wrote g c =
    let wrote = c.write_to.ensures in
    rw (← c.self.view_is) (IfOk-from c.write_to.result (IfOk-both _ _ c.write_to.result wrote.count (IfOk-both _ _ c.write_to.result wrote.left wrote.taken)) (λ n h. (
      h.0,
      record {
        pending = h.1.0;
        empty = wrote.empty;
        room = wrote.room;
        history = λ p history. History-sent p n _ _ h.1.0 refl history;
        same = refl;
      },
      h.1.1,
    )))
