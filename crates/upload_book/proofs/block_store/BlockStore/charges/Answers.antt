use Rattle.std.proofs.Common.{refl, ◌∙◌, arith}
use Rattle.std.proofs.Math.ListN.{length-set}
use Rattle.upload_book.specs.Charge.{charge_with}
use Rattle.upload_book.specs.BlockStore.{part_at}
use Rattle.upload_book.proofs.Heads.Tables.{told-all, told-more}
use Rattle.upload_book.proofs.block_store.BlockStore.charges.Goals as goal

pub loop-tenant-init : goal.loop-tenant-init
loop-tenant-init c = (refl, λ k d below. absurd (omega (arith, below)))

pub loop-tenant-preserved : goal.loop-tenant-preserved
loop-tenant-preserved c =
    let s = c.args.self.now in (
      length-set c.loop-tenant.charges c.loop-tenant.tenant c.charge.result ∙ c.loop-tenant.invariant.0,
      told-more (λ k. charge_with s.pool.block_size (part_at s k)) c.loop-tenant.charges c.loop-tenant.tenant c.charge.result c.loop-tenant.invariant.0 c.loop-tenant-test.true c.charge.ensures c.loop-tenant.invariant.1,
    )

pub returns : goal.returns
returns c =
    let s = c.args.self.now in
    told-all (λ k. charge_with s.pool.block_size (part_at s k)) c.loop-tenant.charges c.loop-tenant.tenant c.loop-tenant.invariant.0 c.loop-tenant-test.false c.loop-tenant.invariant.1
