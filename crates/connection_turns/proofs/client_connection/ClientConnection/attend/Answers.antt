use Rattle.std.proofs.Common.{◌∙◌, arith, refl, subst, subst₂, sym}
use Rattle.http_wire.specs.History.{nothing_yet}
use Rattle.http_wire.proofs.AheadLemmas.{Appends-none, Consumes-none}
use Rattle.connection_turns.specs.Turn.{HasHistoryWithin, and_then}
use Rattle.connection_turns.proofs.ClientConnectionLemmas.{History-nothing}
use Rattle.connection_turns.proofs.TurnLemmas.{AreTimed-none, Passes-same}
use Rattle.connection_turns.proofs.client_connection.ClientConnection.attend.Goals as goal

pub returns-in_default-clause-carries : goal.returns-in_default-clause-carries
returns-in_default-clause-carries g c p h = (
  nothing_yet,
  record { taken = Consumes-none _; handed = Appends-none _; told = refl; timed = AreTimed-none c.args.self.now.piece; counted = omega arith; noted = tt; answered = refl },
  History-nothing c.args.self.now.limits c.args.self.now.piece p _ _ (sym c.take.ensures.value ∙ c.in_default.ensures.none) c.take.ensures.after h,
)

pub returns-clause-carries : goal.returns-clause-carries
returns-clause-carries g c p h =
    let limits = c.args.self.now.limits in
    let piece = c.args.self.now.piece in
    let opened = c.in-Ok.ensures.history p (subst (HasHistoryWithin limits piece p) (sym c.take.ensures.value) h) in
    let t = c.take_turn-turned.ensures.carries p opened.0 in (
      t.0,
      Passes-same g.A.Answer.steps g.K.Clock.tells piece _ _ _ _ t.0 opened.2 t.1,
      subst₂ (λ m s. HasHistoryWithin m s (and_then p t.0) c.put_away.result) (c.take_turn-turned.ensures.limits ∙ opened.1) (c.take_turn-turned.ensures.piece ∙ opened.2) (c.put_away.ensures (and_then p t.0) t.2),
    )
