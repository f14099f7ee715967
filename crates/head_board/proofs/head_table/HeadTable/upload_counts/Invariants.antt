use Rattle.std.proofs.Common.{◌≡◌, ℕ, ◌<◌, length, get_or}
use Rattle.head_board.specs.Totals.{upload_count}
use Rattle.head_board.proofs.head_table.HeadTable.upload_counts.Given as goal

-- the tenants before the place are told
abbrev pub invariant-loop-tenant : goal.invariant-loop-tenant
invariant-loop-tenant l =
    (length l.counts ≡ 16) × ((k d : ℕ) → k < l.tenant → get_or l.counts k d ≡ upload_count l.self k)
