use Rattle.std.proofs.Common.{refl}
use Rattle.http_wire.proofs.HistoryLemmas.{History-sent}
use Rattle.http_wire.proofs.connection.Connection.sent.Goals as goal

pub returns : goal.returns
returns c = rw (← c.self.view_is) (record {
  pending = c.sent.ensures.pending;
  empty = c.sent.ensures.empty;
  room = c.sent.ensures.room;
  history = λ p h. History-sent p c.args.count _ _ c.sent.ensures.pending refl h;
  same = refl;
})
