use Rattle.std.proofs.Common.{length, ap, sym, ◌∙◌, arith}
use Rattle.std.proofs.Math.ListN.{get_or-map, length-map}
use Rattle.upload_book.specs.BlockStore.{part_at, plain_in}
use Rattle.upload_book.specs.Stored.{part_of}
use Rattle.upload_book.specs.Sweep.{part_after_sweep}
use Rattle.upload_book.specs.TenantBook.{opening_part}
use Rattle.upload_book.proofs.Store.StoreSwept.{IsSweptOn-next, length-mapped_to, mapped_to-all}
use Rattle.upload_book.proofs.block_store.BlockStore.sweep.Goals as goal

pub sweep_tenant-ended-requires : goal.sweep_tenant-ended-requires
sweep_tenant-ended-requires c =
    omega (
      arith,
      c.loop-tenant-test.true,
      c.tenants-tenant-end.ensures,
      length-map c.args.self.now.stored_tenants (part_of c.args.self.now.pool),
      length-map c.loop-tenant.self.stored_tenants (part_of c.loop-tenant.self.pool),
      ap length c.loop-tenant.invariant.plain,
      length-mapped_to (part_after_sweep c.args.now) c.loop-tenant.tenant (plain_in c.args.self.now),
    )

pub overflow_add-ended : goal.overflow_add-ended
overflow_add-ended c =
    let s = c.loop-tenant.self in
    let on = IsSweptOn-next c.args.now (plain_in c.args.self.now) (plain_in s) (plain_in c.sweep_tenant-ended.new.self) c.loop-tenant.tenant c.sweep_tenant-ended.result (opening_part 0) (part_at s c.loop-tenant.tenant)
    (omega (arith, c.loop-tenant-test.true, c.tenants-tenant-end.ensures, length-map c.args.self.now.stored_tenants (part_of c.args.self.now.pool)))
    c.loop-tenant.invariant.plain (sym (get_or-map (part_of s.pool) s.stored_tenants c.loop-tenant.tenant (opening_part 0))) c.sweep_tenant-ended.ensures.plain c.sweep_tenant-ended.ensures.ended in
    omega (arith, on.few, c.loop-tenant.invariant.ended, c.requires.few)

pub loop-tenant-preserved : goal.loop-tenant-preserved
loop-tenant-preserved c =
    let s = c.loop-tenant.self in
    let on = IsSweptOn-next c.args.now (plain_in c.args.self.now) (plain_in s) (plain_in c.sweep_tenant-ended.new.self) c.loop-tenant.tenant c.sweep_tenant-ended.result (opening_part 0) (part_at s c.loop-tenant.tenant)
    (omega (arith, c.loop-tenant-test.true, c.tenants-tenant-end.ensures, length-map c.args.self.now.stored_tenants (part_of c.args.self.now.pool)))
    c.loop-tenant.invariant.plain (sym (get_or-map (part_of s.pool) s.stored_tenants c.loop-tenant.tenant (opening_part 0))) c.sweep_tenant-ended.ensures.plain c.sweep_tenant-ended.ensures.ended in
    record {
      plain = on.plain;
      ended = omega (arith, on.ended, c.loop-tenant.invariant.ended);
      sizes = record { blocks = c.sweep_tenant-ended.ensures.sizes.blocks ∙ c.loop-tenant.invariant.sizes.blocks; bytes = c.sweep_tenant-ended.ensures.sizes.bytes ∙ c.loop-tenant.invariant.sizes.bytes };
      room = c.sweep_tenant-ended.ensures.room_stays ∙ c.loop-tenant.invariant.room;
    }

pub returns-clause-plain : goal.returns-clause-plain
returns-clause-plain c =
    c.loop-tenant.invariant.plain
    ∙ mapped_to-all (part_after_sweep c.args.now) c.loop-tenant.tenant (plain_in c.args.self.now)
    (omega (arith, c.loop-tenant-test.false, c.tenants-tenant-end.ensures, length-map c.args.self.now.stored_tenants (part_of c.args.self.now.pool)))
