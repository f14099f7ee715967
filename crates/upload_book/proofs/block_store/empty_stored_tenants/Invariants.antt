use Rattle.std.proofs.Common.{◌≡◌, length, map, take, vec_len, vec_capacity}
use Rattle.std.specs.List.{All}
use Rattle.upload_book.specs.declared.stored_tenant.StoredTenant.{StoredTenant as KeptTenant}
use Rattle.upload_book.specs.inside.Kept.{stored_tenant_of, HasUploadRoom}
use Rattle.upload_book.specs.BlockStore.{opening_stored_tenants}
use Rattle.upload_book.specs.Stored.{StoredTenant}
use Rattle.upload_book.proofs.block_store.empty_stored_tenants.Given as goal

-- each tenant so far has a part, and there is room for those of the others
abbrev pub invariant-loop-place : goal.invariant-loop-place
invariant-loop-place l = record {
  room : vec_capacity l.stored_tenants ≡ length l.settings.tenants;
  some : vec_len l.stored_tenants ≡ l.place;
  opening : map {A = KeptTenant} {B = StoredTenant} stored_tenant_of l.stored_tenants.items ≡ opening_stored_tenants (take l.place l.settings.tenants);
  charges : All (λ (t : KeptTenant). t.charge ≡ 0) l.stored_tenants.items;
  roomy : All (HasUploadRoom l.settings.numbers.uploads) l.stored_tenants.items;
}
