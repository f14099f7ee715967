-- Clients whose connection is put away while they are silent.
use Rattle.std.proofs.Common.{◌≡◌, ℕ, [], Option, None, sym, subst, append-nil}
use Rattle.http_wire.specs.OnConnection.{OnConnection}
use Rattle.http_wire.specs.History.{History, gave, nothing_yet}
use Rattle.http_wire.specs.declared.request_limits.RequestLimits.{RequestLimits}
use Rattle.connection_turns.specs.Turn.{HasHistoryWithin, and_then}
use Rattle.connection_turns.proofs.TurnLemmas.{and_then-none}

-- where there was no connection, and nothing passed, the history is as it was
pub History-nothing : (limits : RequestLimits) (piece : Option ℕ) (p : History) (old new : Option OnConnection) → old ≡ None → new ≡ None → HasHistoryWithin limits piece p old → HasHistoryWithin limits piece (and_then p nothing_yet) new
History-nothing limits piece p old new was is h =
    subst (λ q. HasHistoryWithin limits piece q new) (sym (and_then-none p)) (subst (HasHistoryWithin limits piece p) (sym is) (subst (HasHistoryWithin limits piece p) was h))

-- the same where nothing was sent
pub History-unsent : (limits : RequestLimits) (piece : Option ℕ) (p : History) (old new : Option OnConnection) → old ≡ None → new ≡ None → HasHistoryWithin limits piece p old → HasHistoryWithin limits piece (gave p []) new
History-unsent limits piece p old new was is h =
    subst (λ l. HasHistoryWithin limits piece (record p { handed = l }) new) (sym (append-nil p.handed)) (subst (HasHistoryWithin limits piece p) (sym is) (subst (HasHistoryWithin limits piece p) was h))
