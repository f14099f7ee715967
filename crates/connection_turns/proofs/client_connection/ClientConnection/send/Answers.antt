use Rattle.std.proofs.Common.{◌∙◌, [], subst, subst₂, sym}
use Rattle.http_wire.specs.History.{gave}
use Rattle.http_wire.proofs.AheadLemmas.{Appends-none}
use Rattle.connection_turns.specs.Turn.{HasHistoryWithin}
use Rattle.connection_turns.proofs.ClientConnectionLemmas.{History-unsent}
use Rattle.connection_turns.proofs.client_connection.ClientConnection.send.Goals as goal

pub returns-in_default-clause-sends : goal.returns-in_default-clause-sends
returns-in_default-clause-sends g c p h =
    ([], Appends-none _, History-unsent c.args.self.now.limits c.args.self.now.piece p _ _ (sym c.take.ensures.value ∙ c.in_default.is) c.take.ensures.after h)

pub returns-clause-sends : goal.returns-clause-sends
returns-clause-sends g c p h =
    let limits = c.args.self.now.limits in
    let piece = c.args.self.now.piece in
    let held = subst (HasHistoryWithin limits piece p) (sym c.take.ensures.value ∙ c.in-Some.is) h in
    let t = c.send_pending-sent.ensures.sends p held.0 in (
      t.0,
      t.1,
      subst₂ (λ m s. HasHistoryWithin m s (gave p t.0) c.put_away.result) (c.send_pending-sent.ensures.limits ∙ held.1) (c.send_pending-sent.ensures.piece ∙ held.2) (c.put_away.ensures (gave p t.0) t.2),
    )
