use Rattle.std.proofs.Common.{◌≡◌, ℕ, ◌<◌, length, get_or}
use Rattle.upload_book.specs.Charge.{charge_with}
use Rattle.upload_book.specs.BlockStore.{part_at}
use Rattle.upload_book.specs.Sweep.{part_after_sweep}
use Rattle.upload_book.proofs.block_store.BlockStore.charges_swept.Given as goal

-- the tenants before the place are told
abbrev pub invariant-loop-tenant : goal.invariant-loop-tenant
invariant-loop-tenant l =
    (length l.charges ≡ 16) × ((k d : ℕ) → k < l.tenant → get_or l.charges k d ≡ charge_with l.self.pool.block_size (part_after_sweep l.now (part_at l.self k)))
