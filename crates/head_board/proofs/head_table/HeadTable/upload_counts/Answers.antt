use Rattle.std.proofs.Common.{refl, ◌∙◌, arith}
use Rattle.std.proofs.Math.ListN.{length-set}
use Rattle.upload_book.proofs.Heads.Tables.{told-all, told-more}
use Rattle.head_board.specs.Totals.{upload_count}
use Rattle.head_board.proofs.head_table.HeadTable.upload_counts.Goals as goal

pub loop-tenant-init : goal.loop-tenant-init
loop-tenant-init c = (refl, λ k d below. absurd (omega (arith, below)))

pub loop-tenant-preserved : goal.loop-tenant-preserved
loop-tenant-preserved c = (
  length-set c.loop-tenant.counts c.loop-tenant.tenant c.upload_count.result ∙ c.loop-tenant.invariant.0,
  told-more (upload_count c.args.self.now) c.loop-tenant.counts c.loop-tenant.tenant c.upload_count.result c.loop-tenant.invariant.0 c.loop-tenant-test.true c.upload_count.ensures c.loop-tenant.invariant.1,
)

pub returns : goal.returns
returns c = told-all (upload_count c.args.self.now) c.loop-tenant.counts c.loop-tenant.tenant c.loop-tenant.invariant.0 c.loop-tenant-test.false c.loop-tenant.invariant.1
