use Rattle.std.proofs.Common.{ap, sym, subst}
use Rattle.http_wire.specs.Layout.{framed_at}
use Rattle.http_wire.specs.History.{HasHistory}
use Rattle.http_wire.specs.inside.Ahead.{Ahead}
use Rattle.http_wire.specs.inside.Phases.{map_phase}
use Rattle.http_wire.proofs.HistoryLemmas.{History-again}
use Rattle.http_wire.proofs.connection.Connection.end.Goals as goal

pub returns-in-Waiting-clause-history : goal.returns-in-Waiting-clause-history
returns-in-Waiting-clause-history c =
    let read_buffer = c.self.inside.buffers.read_buffer in
    let write_buffer = c.self.inside.buffers.write_buffer in
    let limits = c.self.inside.limits in
    let piece = c.self.inside.piece in
    λ p h. History-again p (record { read_buffer = read_buffer; phase = map_phase (framed_at read_buffer.lent) c.self.inside.phase; write_buffer = write_buffer; limits = limits; piece = piece }) c.in-Waiting.stage c.end.new.self (ap (λ (a : Ahead). a.held) c.end.ensures)
    (subst (λ q. HasHistory p (record { read_buffer = read_buffer; phase = map_phase (framed_at read_buffer.lent) q; write_buffer = write_buffer; limits = limits; piece = piece })) c.in-Waiting.is (subst (HasHistory p) (sym c.self.view_is) h))
