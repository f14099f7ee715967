-- What a tenant of the store will pay once uploads have ended.
use Rattle.std.proofs.Common.{◌≡◌, ℕ, Bool, true, false, cond, not, List, [], ◌∷◌, map, Some, refl, ap, sym, ◌∙◌, arith}
use Rattle.std.specs.List.{filter, remove}
use Rattle.std.proofs.lemmas.List.Elements.{All-filter}
use Rattle.block_pool.specs.Blocks.{Blocks}
use Rattle.upload_book.specs.Charge.{charge_with}
use Rattle.upload_book.specs.declared.stored_tenant.StoredTenant.{StoredTenant as KeptTenant}
use Rattle.upload_book.specs.declared.block_store.BlockStore.TheInside.{Inside}
use Rattle.upload_book.specs.Expiry.{has_expired}
use Rattle.upload_book.specs.inside.Kept.{stored_tenant_of, store_of, IsKept}
use Rattle.upload_book.specs.inside.ChargeAfter.{cost_of, left, AreCounted, IsPaid}
use Rattle.upload_book.specs.BlockStore.{part_at}
use Rattle.upload_book.specs.inside.Places.{without_upload}
use Rattle.upload_book.specs.Stored.{StoredTenant, StoredUpload, entry_of, part_of}
use Rattle.upload_book.specs.inside.Pieces.{HasOwnPiece}
use Rattle.upload_book.specs.Sweep.{part_after_sweep}
use Rattle.upload_book.specs.TenantBook.{Entry}
use Rattle.upload_book.specs.Upload.{Upload}
use Rattle.upload_book.proofs.Charge.InUse.{blocks_in_use}
use Rattle.upload_book.proofs.Store.Pieces.{All-remove, Contains-without, without}
use Rattle.upload_book.proofs.Charge.PlainCharge.{charge-plain}
use Rattle.upload_book.proofs.Store.PlainStoredTenants.{part-without}
use Rattle.upload_book.proofs.Store.SweptLemmas.{pieces-swept, swept_stored_tenant}
use Rattle.upload_book.proofs.Store.StoredTenants.{IsStoredOn-stored_tenant}
use Rattle.upload_book.proofs.Store.StoreAppend.{charge-few}
use Rattle.upload_book.proofs.Store.StoreLemmas.{IsPart, IsStoredTenant-part, charge-part, charges-kept, order-part, own-part, reads-part, stored_tenant_at-part}

-- a part knows what its tenant pays, and its pieces were sent to uploads that were given
pub IsPaid-part : (v : Inside) (t : ℕ) (old : KeptTenant) → IsKept v → IsPart v t old → IsPaid v.pool.block_size old
IsPaid-part v t old kept is = record {
  charge = charge-part v t old kept is;
  fits = omega (arith, charge-few v t old 0 kept is (omega (arith, charges-kept v kept, blocks_in_use v.pool (store_of v).stored_tenants kept.stored)));
  given = λ x c. ((IsStoredOn-stored_tenant v.pool (store_of v).stored_tenants t (stored_tenant_of old) kept.stored (IsStoredTenant-part v t old is)).pieces.each x c).given;
}

-- its blocks are counted
pub AreCounted-part : (v : Inside) (t : ℕ) (old : KeptTenant) → IsKept v → IsPart v t old → AreCounted v.pool (stored_tenant_of old)
AreCounted-part v t old kept is =
    let on = IsStoredOn-stored_tenant v.pool (store_of v).stored_tenants t (stored_tenant_of old) kept.stored (IsStoredTenant-part v t old is) in
    record {
      counts = on.counts;
      once = λ x c. (on.pieces.each x c).once;
      agree = on.pieces.agree;
      own = own-part v t old kept is;
      ids = (order-part v t old kept is).ids;
    }

-- what it will pay without the upload at a place, by the plain book
pub charge-without : (v : Inside) (t place : ℕ) (old : KeptTenant) → IsKept v → IsPart v t old
    → cost_of v.pool.block_size old.next (remove old.uploads.items place) ≡ charge_with v.pool.block_size (without_upload (part_at (store_of v) t) place)
charge-without v t place old kept is =
    sym (charge-plain v.pool.block_size v.pool (without (stored_tenant_of old) place) (All-remove HasOwnPiece old.uploads.items place (own-part v t old kept is)) (λ x c. reads-part v t old kept is x (Contains-without (stored_tenant_of old) place x c)))
    ∙ ap (charge_with v.pool.block_size) (part-without v.pool v.pool (stored_tenant_of old) place (λ b some. refl))
    ∙ ap (λ (s : StoredTenant). charge_with v.pool.block_size (without_upload (part_of v.pool s) place)) (sym (stored_tenant_at-part v t old is))

-- the uploads that are left, as the plain book has them
entries-swept : (p : Blocks) (now : ℕ) (entries : List (Entry StoredUpload))
    → map {A = Entry StoredUpload} {B = Entry Upload} (entry_of p) (left (Some now) entries) ≡ filter (λ e. not (has_expired now e.kept.expires)) (map {A = Entry StoredUpload} {B = Entry Upload} (entry_of p) entries)
entries-swept p now [] = refl
entries-swept p now (e ∷ entries) = by_test (not (has_expired now e.kept.expires)) _ _ (entries-swept p now entries) where
  by_test : (test : Bool) (rest : List (Entry StoredUpload)) (plain : List (Entry Upload)) → map {A = Entry StoredUpload} {B = Entry Upload} (entry_of p) rest ≡ plain
      → map {A = Entry StoredUpload} {B = Entry Upload} (entry_of p) (cond test (e ∷ rest) rest) ≡ cond test (entry_of p e ∷ plain) plain
  by_test true rest plain is = ap (λ plain. entry_of p e ∷ plain) is
  by_test false rest plain is = is

-- as the plain book has it
pub part-swept : (p : Blocks) (now : ℕ) (stored_tenant : StoredTenant) → part_of p (swept_stored_tenant now stored_tenant) ≡ part_after_sweep now (part_of p stored_tenant)
part-swept p now stored_tenant =
    ap (λ (uploads : List (Entry Upload)). record (part_of p stored_tenant) { uploads = uploads }) (entries-swept p now stored_tenant.uploads)

-- what it will pay after a sweep, by the plain book
pub charge-swept : (v : Inside) (t now : ℕ) (old : KeptTenant) → IsKept v → IsPart v t old
    → cost_of v.pool.block_size old.next (left (Some now) old.uploads.items) ≡ charge_with v.pool.block_size (part_after_sweep now (part_at (store_of v) t))
charge-swept v t now old kept is =
    sym (charge-plain v.pool.block_size v.pool (swept_stored_tenant now (stored_tenant_of old)) (All-filter (λ (e : Entry StoredUpload). not (has_expired now e.kept.expires)) HasOwnPiece old.uploads.items (own-part v t old kept is)) (λ x c. reads-part v t old kept is x (pieces-swept now (stored_tenant_of old) x c)))
    ∙ ap (charge_with v.pool.block_size) (part-swept v.pool now (stored_tenant_of old))
    ∙ ap (λ (s : StoredTenant). charge_with v.pool.block_size (part_after_sweep now (part_of v.pool s))) (sym (stored_tenant_at-part v t old is))
