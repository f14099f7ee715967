use Rattle.std.proofs.Common.{◌≡◌, ap, arith, is_err, sym, subst}
use Rattle.http_wire.specs.Layout.{framed_at}
use Rattle.http_wire.specs.OnConnection.{OnConnection, wanted}
use Rattle.http_wire.specs.History.{HasHistory}
use Rattle.http_wire.specs.declared.connection.Wants.TheVariants as wants
use Rattle.http_wire.proofs.AheadLemmas.{OnErr-always, OnErr-known}
use Rattle.http_wire.proofs.PhaseLemmas.{History-unread, Reads-few, Takes-read, came-len, none-came}
use Rattle.http_wire.proofs.connection.Connection.read_from.Goals as goal

pub returns-in-Waiting-clause-takes : goal.returns-in-Waiting-clause-takes
returns-in-Waiting-clause-takes g c =
    let grew = c.fill.ensures.grew in
    let count = c.in_ok-count.ensures.count in
    let held = c.self.inside.buffers.read_buffer.held in
    let new = c.fill.new.self.held in
    rw (← c.self.view_is) (
      grew.0,
      came-len held grew.0 new c.in_ok-count.count grew.1 count,
      grew.2,
      Takes-read grew.0 (framed_at c.self.inside.buffers.read_buffer.lent) c.self.inside.phase c.in-Waiting.stage c.self.inside.buffers.read_buffer c.fill.new.self _ _ _ c.in-Waiting.is c.self.invariant.phase grew.1
          (none-came held grew.0 new c.in_ok-count.count _ grew.1 count c.in_ok-count.ensures.ended),
    )

pub returns-in-Waiting-clause-few : goal.returns-in-Waiting-clause-few
returns-in-Waiting-clause-few g c =
    let most = c.lacking-most.ensures.lacks in
    rw (← c.self.view_is) (λ limit within bytes said h. Reads-few (framed_at c.self.inside.buffers.read_buffer.lent) c.self.inside.phase c.in-Waiting.stage c.self.inside.limits limit c.in_ok-count.count c.self.inside.buffers.read_buffer within c.in-Waiting.is c.self.invariant.phase
    (omega (arith, c.in_ok-count.ensures.few, most)) bytes said h)

pub returns-in_err-count-clause-kept : goal.returns-in_err-count-clause-kept
returns-in_err-count-clause-kept g c =
    let unread = OnErr-known c.fill.result (ap is_err c.in_err-count.was) c.fill.ensures.unread in
    let reads = subst (λ (o : OnConnection). wanted o ≡ wants.Read) (sym c.self.view_is) c.requires.wants in
    OnErr-always c.from_residual.result (λ p h. History-unread p c.self.inside.phase (framed_at c.self.inside.buffers.read_buffer.lent) _ c.self.inside.buffers.read_buffer c.fill.new.self _ _ _ reads unread.0 (subst (HasHistory p) (sym c.self.view_is) h))
