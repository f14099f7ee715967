use Rattle.std.proofs.Common.{◌≡◌, ◌+◌}
use Rattle.std.specs.List.{sum_by}
use Rattle.block_bodies.specs.Changes.{SameSizes}
use Rattle.upload_book.specs.BlockStore.{plain_in}
use Rattle.upload_book.specs.Sweep.{part_after_sweep}
use Rattle.upload_book.proofs.Lawful.LawfulFewer.{count_of}
use Rattle.upload_book.proofs.Store.StoreSwept.{mapped_to}
use Rattle.upload_book.proofs.block_store.BlockStore.sweep.Given as goal

-- the tenants so far are swept
abbrev pub invariant-loop-tenant : goal.invariant-loop-tenant
invariant-loop-tenant l = record {
  plain : plain_in l.self ≡ mapped_to (part_after_sweep l.now) l.tenant (plain_in l.fn.self);
  ended : l.ended + sum_by count_of (plain_in l.self) ≡ sum_by count_of (plain_in l.fn.self);
  sizes : SameSizes l.fn.self.pool l.self.pool;
  room : l.self.room ≡ l.fn.self.room;
}
