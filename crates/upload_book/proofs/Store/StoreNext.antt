-- The store where a tenant's next id is set.
use Rattle.std.proofs.Common.{◌≡◌, ℕ, ◌+◌, ◌≤◌, set, refl, sym, ap, ◌∙◌, arith}
use Rattle.upload_book.specs.declared.stored_tenant.StoredTenant.{StoredTenant as KeptTenant}
use Rattle.upload_book.specs.declared.block_store.BlockStore.TheInside.{Inside}
use Rattle.upload_book.specs.inside.Kept.{stored_tenant_of, store_of, IsKept}
use Rattle.block_pool.specs.Blocks.{Blocks}
use Rattle.upload_book.specs.BlockStore.{plain_in, part_at}
use Rattle.upload_book.specs.TenantBook.{with_next}
use Rattle.upload_book.specs.Stored.{StoredTenant, part_of}
use Rattle.upload_book.proofs.Store.InOrder.{AreInOrder-next}
use Rattle.upload_book.proofs.Store.Pieces.{ArePieces-copies}
use Rattle.upload_book.proofs.Store.StoredTenants.{Changes, HoldsPieces-changed, IsStoredOn, IsStoredOn-stored_tenant, charge-changed}
use Rattle.upload_book.proofs.Store.StoreLemmas.{with_stored_tenant, IsPart, IsStoredTenant-part, stored_tenant_at-part, own-part, order-part, reads-part, charge-part, room-part, IsKept-with_stored_tenant, plain_in-with_stored_tenant}

-- the part with another next id
abbrev pub renumbered : KeptTenant → ℕ → KeptTenant
renumbered old next = record old { next = next }

-- what this does to the stored part
Changes-next : (p : Blocks) (old : StoredTenant) (next : ℕ) → IsStoredOn p old → old.next ≤ next → Changes p old p (record old { next = next })
Changes-next p old next on more = record {
  sizes = record { blocks = refl; bytes = refl };
  pieces = ArePieces-copies p.block_size old.next next _ _ on.pieces more (λ x c. (x, c, refl));
  counts = λ b. refl;
  fresh = λ b some none. absurd (omega arith);
}

module _ (v : Inside) (t next : ℕ) (old : KeptTenant) (kept : IsKept v) (part : IsPart v t old) (more : old.next ≤ next) where
  change : Changes v.pool (stored_tenant_of old) v.pool (stored_tenant_of (renumbered old next))
  change = Changes-next v.pool (stored_tenant_of old) next (IsStoredOn-stored_tenant v.pool (store_of v).stored_tenants t (stored_tenant_of old) kept.stored (IsStoredTenant-part v t old part)) more

  -- the store is kept
  pub IsKept-next : IsKept (with_stored_tenant v v.pool t (renumbered old next))
  IsKept-next =
      IsKept-with_stored_tenant v v.pool t old (renumbered old next) kept part (record { blocks = refl; bytes = refl })
      (HoldsPieces-changed v.pool (store_of v).stored_tenants t (stored_tenant_of old) v.pool (stored_tenant_of (renumbered old next)) kept.stored (IsStoredTenant-part v t old part) change)
      (λ k other there differs b some. refl)
      (own-part v t old kept part)
      (reads-part v t old kept part)
      (AreInOrder-next (stored_tenant_of old) next more (order-part v t old kept part))
      (charge-part v t old kept part ∙ stays _ _ _ (charge-changed v.pool (store_of v).stored_tenants t (stored_tenant_of old) v.pool (stored_tenant_of (renumbered old next)) kept.stored (IsStoredTenant-part v t old part) change))
      (let room = room-part v t old kept part in record { uploads = room.uploads; boxed = room.boxed; spare = room.spare; boxes = room.boxes })
    where
      stays : (f a b : ℕ) → f + b ≡ f + a → a ≡ b
      stays f a b same = omega arith

  -- the plain book has the next id
  pub plain-next : plain_in (store_of (with_stored_tenant v v.pool t (renumbered old next))) ≡ set (plain_in (store_of v)) t (with_next (part_at (store_of v) t) next)
  plain-next =
      plain_in-with_stored_tenant v v.pool t old (renumbered old next) part (λ k other there differs b some. refl)
      ∙ ap (λ (s : StoredTenant). set (plain_in (store_of v)) t (with_next (part_of v.pool s) next)) (sym (stored_tenant_at-part v t old part))
