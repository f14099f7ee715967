use Rattle.std.proofs.Common.{◌≡◌, ◌*◌, refl, arith}
use Rattle.std.proofs.lemmas.Bool.{leb-true, le-leb}
use Rattle.block_pool.specs.Blocks.{IsWithinLimits}
use Rattle.block_pool.proofs.pool.Pool.is_within_limits.Goals as goal

pub returns-then-block_size-le-BLOCK_SIZE_MAX : goal.returns-then-block_size-le-BLOCK_SIZE_MAX
returns-then-block_size-le-BLOCK_SIZE_MAX c =
    let product : c.from.result * c.from-then-block_size-le-BLOCK_SIZE_MAX.result ≡ c.args.blocks * c.args.block_size =
    rw (c.from.ensures, c.from-then-block_size-le-BLOCK_SIZE_MAX.ensures) refl in
    let tests = c.if-block_size-le-BLOCK_SIZE_MAX.true in (
      λ h. record { some_blocks = tests.0; few_blocks = omega (arith, c.ranges.blocks); some_bytes = tests.1; small_blocks = tests.2; small_pool = rw (← product) (leb-true _ _ h) },
      λ (limits : IsWithinLimits c.args.blocks c.args.block_size). le-leb _ _ (rw product limits.small_pool),
    )
