use Rattle.std.proofs.Common.{◌≡◌, ℕ, Option, None, Some, IfSome, sym, subst}
use Rattle.http_wire.specs.Layout.{framed_at}
use Rattle.http_wire.specs.OnConnection.{OnConnection, body_in}
use Rattle.http_wire.specs.History.{HasHistory}
use Rattle.http_wire.specs.declared.phase.Phase.TheVariants.{Waiting}
use Rattle.http_wire.specs.declared.read.pieces.PiecedBody.{PiecedBody}
use Rattle.http_wire.specs.inside.Phases.{Gathers, map_phase}
use Rattle.http_wire.specs.inside.Standing.{StaysBody, pieced}
use Rattle.http_wire.proofs.HistoryLemmas.{History-broke}
use Rattle.http_wire.proofs.PhaseLemmas.{same-body}
use Rattle.http_wire.proofs.connection.Connection.fail.Goals as goal

-- a body that stays has its size
stays-sized : (piece : Option ℕ) (before after : Option PiecedBody) → StaysBody before after → IfSome before (λ (b : PiecedBody). piece ≡ Some b.piece) → IfSome after (λ (b : PiecedBody). piece ≡ Some b.piece)
stays-sized piece before None stays sized = tt
stays-sized piece None (Some c) stays sized = absurd stays
stays-sized piece (Some b) (Some c) stays sized = rw stays sized

pub invariant_of-self : goal.invariant_of-self
invariant_of-self c =
    let piece = c.self.inside.piece in
    let broken = c.broken-self-inside.ensures in
    record {
      size = c.self.invariant.size;
      some = c.self.invariant.some;
      phase = broken.phase;
      body = stays-sized piece _ _ broken.body (subst (λ q. IfSome (body_in q) (λ (b : PiecedBody). piece ≡ Some b.piece)) c.in-Waiting.is c.self.invariant.body);
      gathered = broken.gathers piece (subst (Gathers piece c.self.inside.buffers.read_buffer) c.in-Waiting.is c.self.invariant.gathered);
    }

pub returns-in-Waiting-clause-breaks : goal.returns-in-Waiting-clause-breaks
returns-in-Waiting-clause-breaks c = rw (← c.self.view_is) (λ bytes said h. c.broken-self-inside.ensures.breaks c.self.inside.limits bytes said (rw c.in-Waiting.is at h))

pub returns-in-Waiting-clause-history : goal.returns-in-Waiting-clause-history
returns-in-Waiting-clause-history c =
    let read_buffer = c.self.inside.buffers.read_buffer in
    let write_buffer = c.self.inside.buffers.write_buffer in
    let limits = c.self.inside.limits in
    let piece = c.self.inside.piece in
    let broken = c.broken-self-inside in
    let old : OnConnection = record { read_buffer = read_buffer; phase = Waiting c.in-Waiting.stage; write_buffer = write_buffer; limits = limits; piece = piece } in
    λ p h. History-broke p old c.in-Waiting.stage _ _ (λ bytes said stands. broken.ensures.breaks limits bytes said stands) (subst (StaysBody (pieced c.in-Waiting.stage)) (sym (same-body _ broken.result)) broken.ensures.body)
    (subst (λ q. HasHistory p (record { read_buffer = read_buffer; phase = map_phase (framed_at read_buffer.lent) q; write_buffer = write_buffer; limits = limits; piece = piece })) c.in-Waiting.is (subst (HasHistory p) (sym c.self.view_is) h))
