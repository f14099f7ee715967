use Rattle.std.proofs.Common.{◌≡◌, length, take, ap, ◌∙◌, arith}
use Rattle.std.proofs.lemmas.List.{take_all}
use Rattle.upload_book.specs.declared.stored_tenant.StoredTenant.{StoredTenant as KeptTenant}
use Rattle.upload_book.specs.inside.Kept.{HasUploadRoom}
use Rattle.upload_book.specs.BlockStore.{opening_stored_tenants}
use Rattle.upload_book.proofs.Store.StoreOpen.{stored_tenants-more, each-more}
use Rattle.upload_book.proofs.block_store.empty_stored_tenants.Goals as goal

pub loop-place-preserved : goal.loop-place-preserved
loop-place-preserved c = record {
  room = omega (arith, c.loop-place.invariant.room, c.push_reserved.ensures.capacity);
  some = omega (arith, c.loop-place.invariant.some, c.push_reserved.ensures.len);
  opening = stored_tenants-more c.args.settings.now.tenants c.loop-place.stored_tenants.items _ _ c.loop-place.place c.quota.result c.push_reserved.ensures.items c.in_ok-new.ensures.stored_tenant c.quota.ensures c.loop-place.invariant.opening;
  charges = each-more (λ (t : KeptTenant). t.charge ≡ 0) c.loop-place.stored_tenants.items _ _ c.push_reserved.ensures.items c.in_ok-new.ensures.charge c.loop-place.invariant.charges;
  roomy = each-more (HasUploadRoom c.args.settings.now.numbers.uploads) c.loop-place.stored_tenants.items _ _ c.push_reserved.ensures.items (rw (← c.numbers.ensures.value) c.in_ok-new.ensures.room) c.loop-place.invariant.roomy;
}

pub returns-clause-stored_tenants : goal.returns-clause-stored_tenants
returns-clause-stored_tenants c =
    let all : c.loop-place.place ≡ length c.args.settings.now.tenants = omega arith in
    c.loop-place.invariant.opening ∙ ap (λ n. opening_stored_tenants (take n c.args.settings.now.tenants)) all ∙ ap opening_stored_tenants (take_all (length c.args.settings.now.tenants) c.args.settings.now.tenants (omega arith))
