-- The store at the start.
use Rattle.std.proofs.Common.{◌≡◌, ℕ, zero, suc, ◌+◌, ◌<◌, ◌^◌, List, [], ◌∷◌, ◌++◌, map, length, get_or, slice_get, take, Some, add-one, refl, ap, sym, ◌∙◌, subst, arith, rules}
use Rattle.std.specs.List.{All}
use Rattle.std.proofs.Math.ListN.{length-map}
use Rattle.std.proofs.lemmas.List.{map-append, get_or-map}
use Rattle.std.proofs.lemmas.List.Elements.{All-push, All-map, All-weaker}
use Rattle.block_pool.specs.Blocks.{count_at, size_of}
use Rattle.upload_book.specs.Charge.{sum_below}
use Rattle.upload_book.specs.declared.settings.TenantQuota.{TenantQuota}
use Rattle.upload_book.specs.declared.stored_tenant.StoredTenant.{StoredTenant as KeptTenant}
use Rattle.upload_book.specs.declared.block_store.BlockStore.TheInside.{Inside}
use Rattle.upload_book.specs.inside.Kept.{stored_tenant_of, store_of, AreInOrder, HasUploadRoom, IsKept}
use Rattle.upload_book.specs.BlockStore.{opening_stored_tenants}
use Rattle.upload_book.specs.Stored.{StoredTenant, pieces_of, charge_on}
use Rattle.upload_book.specs.inside.Pieces.{ReadsWhole, HasOwnPiece}
use Rattle.upload_book.specs.TenantBook.{opening_part}
use Rattle.upload_book.proofs.Charge.InUse.{Contains-none}
use Rattle.upload_book.proofs.Lawful.IdLemmas.{AreBelow-none}
use Rattle.upload_book.proofs.Store.StayLemmas.{HoldsPieces-opening}

-- one more tenant has one more part
pub opening_stored_tenants-more : (tenants : List TenantQuota) (k quota : ℕ) → slice_get (map {A = TenantQuota} {B = ℕ} (λ t. t.quota) tenants) k ≡ Some quota → opening_stored_tenants (take (suc k) tenants) ≡ opening_stored_tenants (take k tenants) ++ opening_part quota ∷ []
opening_stored_tenants-more [] k quota is = absurd cc
opening_stored_tenants-more (t ∷ tenants) zero quota is = let same : t.quota ≡ quota = cc in rw same refl
opening_stored_tenants-more (t ∷ tenants) (suc k) quota is =
    ap (λ rest. opening_part t.quota ∷ rest) (opening_stored_tenants-more tenants k quota is)

-- the parts with one more
pub stored_tenants-more : (tenants : List TenantQuota) (parts items : List KeptTenant) (made : KeptTenant) (k quota : ℕ) → items ≡ parts ++ made ∷ [] → stored_tenant_of made ≡ opening_part quota
    → slice_get (map {A = TenantQuota} {B = ℕ} (λ t. t.quota) tenants) k ≡ Some quota → map {A = KeptTenant} {B = StoredTenant} stored_tenant_of parts ≡ opening_stored_tenants (take k tenants)
    → map {A = KeptTenant} {B = StoredTenant} stored_tenant_of items ≡ opening_stored_tenants (take (k + 1) tenants)
stored_tenants-more tenants parts items made k quota is opens there before =
    ap (map {A = KeptTenant} {B = StoredTenant} stored_tenant_of) is ∙ map-append stored_tenant_of parts (made ∷ []) ∙ ap (λ all. all ++ stored_tenant_of made ∷ []) before ∙ ap (λ one. opening_stored_tenants (take k tenants) ++ one ∷ []) opens
    ∙ sym (ap (λ n. opening_stored_tenants (take n tenants)) (add-one k) ∙ opening_stored_tenants-more tenants k quota there)

-- what holds of each holds with one more
pub each-more : (P : KeptTenant → Type 0) (parts items : List KeptTenant) (made : KeptTenant) → items ≡ parts ++ made ∷ [] → P made → All P parts → All P items
each-more P parts items made is here before = subst (All P) (sym is) (All-push P parts made before here)

-- no part has an upload
no_uploads : (tenants : List TenantQuota) → All (λ (s : StoredTenant). s.uploads ≡ []) (opening_stored_tenants tenants)
no_uploads tenants = All-map (λ (s : StoredTenant). s.uploads ≡ []) (λ (t : TenantQuota). opening_part t.quota) tenants (λ k d within. refl)

-- a part with no upload costs nothing
empty_prices : (n : ℕ) → sum_below n (λ origin. 0) ≡ 0
empty_prices zero = refl
empty_prices (suc n) = ap (λ k. k + 0) (empty_prices n) ∙ omega arith

empty_charge : (size : ℕ) (stored_tenant : StoredTenant) → stored_tenant.uploads ≡ [] → charge_on size stored_tenant ≡ 0
empty_charge size stored_tenant empty =
    ap (λ uploads. charge_on size (record stored_tenant { uploads = uploads })) empty ∙ empty_prices stored_tenant.next

-- the store is kept
pub IsKept-opening : (v : Inside) (tenants : List TenantQuota) → (store_of v).stored_tenants ≡ opening_stored_tenants tenants → ((b : ℕ) → count_at v.pool b ≡ 0) → 0 < v.pool.block_size → size_of v.pool < 2 ^ 64
    → All (λ (t : KeptTenant). t.charge ≡ 0) v.stored_tenants.items → All (HasUploadRoom v.room) v.stored_tenants.items → IsKept v
IsKept-opening v tenants opens free size few charges room =
    let none : All (λ (s : StoredTenant). s.uploads ≡ []) (store_of v).stored_tenants = subst (All (λ (s : StoredTenant). s.uploads ≡ [])) (sym opens) (no_uploads tenants) in
    record {
      stored = HoldsPieces-opening v.pool (store_of v).stored_tenants free none;
      own = All-weaker (λ (s : StoredTenant). s.uploads ≡ []) (λ (s : StoredTenant). All HasOwnPiece s.uploads) (λ s empty. rw empty (search rules)) (store_of v).stored_tenants none;
      reads = All-weaker (λ (s : StoredTenant). s.uploads ≡ []) (λ (s : StoredTenant). ReadsWhole v.pool (pieces_of s)) (λ s empty x c. absurd (Contains-none x (rw empty at c))) (store_of v).stored_tenants none;
      order = All-weaker (λ (s : StoredTenant). s.uploads ≡ []) AreInOrder (λ s empty. record { ids = rw empty (AreBelow-none s.next); origins = rw empty (search rules) }) (store_of v).stored_tenants none;
      size = size;
      blocks = few;
      charges = λ k d within.
          let inside : k < length (store_of v).stored_tenants = omega (arith, within, length-map v.stored_tenants.items stored_tenant_of) in
          let t = get_or v.stored_tenants.items k d in
          let empty : (stored_tenant_of t).uploads ≡ [] = subst (λ (s : StoredTenant). s.uploads ≡ []) (get_or-map stored_tenant_of v.stored_tenants.items k d (stored_tenant_of d) within) (none k (stored_tenant_of d) inside) in
          charges k d within ∙ sym (empty_charge v.pool.block_size (stored_tenant_of t) empty);
      room = room;
    }
