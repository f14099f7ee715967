use Rattle.std.proofs.Common.{◌≡◌, ◌≤◌, vec_len, vec_capacity}
use Rattle.tus_shared.specs.Desk.{new_desks}
use Rattle.tus_shared.specs.inside.StoreRule.{IsCounted}
use Rattle.tus_shared.proofs.opening.open_desks.Given as goal

abbrev pub invariant-loop-number : goal.invariant-loop-number
invariant-loop-number g l =
    IsCounted l.number 0 l.charged
    × IsCounted l.number 0 l.released
    × IsCounted l.number 0 l.made
    × (l.board ≡ l.fn.board)
    × (l.desks.items ≡ new_desks l.fn.journal l.number)
    × (vec_len l.desks ≡ l.number)
    × (l.count ≤ vec_capacity l.desks)
