-- How many hold a block of an upload.
use Rattle.std.proofs.Common.{◌≡◌, ℕ, ◌<◌, List, length, get_or, Option, None, Some, option_map, option_and_then, slice_get, inl, inr, sym, ap, ◌∙◌, subst, arith}
use Rattle.std.specs.List.{Contains, position}
use Rattle.std.proofs.lemmas.List.{get_or_default}
use Rattle.std.proofs.lemmas.Option.{get_or_from_slice_get, slice_get_cases}
use Rattle.std.proofs.lemmas.List.Quantifiers.{position-Some}
use Rattle.block_pool.specs.Blocks.{count_at, places_of, size_of}
use Rattle.block_pool.proofs.BlocksLaws.{below_size, places_of-at}
use Rattle.upload_book.specs.declared.pieces.Piece.{Piece}
use Rattle.upload_book.specs.declared.stored_tenant.StoredTenant.{StoredTenant as KeptTenant}
use Rattle.upload_book.specs.declared.block_store.BlockStore.TheInside.{Inside}
use Rattle.upload_book.specs.inside.Kept.{stored_tenant_of, store_of, IsKept}
use Rattle.upload_book.specs.BlockStore.{BlockStore, holders_at, no_upload}
use Rattle.upload_book.specs.Stored.{StoredTenant, StoredUpload, block_at, pieces_of}
use Rattle.upload_book.specs.TenantBook.{Entry, kept_in}
use Rattle.upload_book.proofs.Lawful.Entries.{has_id, kept_in-position}
use Rattle.upload_book.proofs.Charge.InUse.{places-within}
use Rattle.upload_book.proofs.Store.Pieces.{IsEntry, Contains-entry}
use Rattle.upload_book.proofs.Store.StoredTenants.{IsStoredOn-stored_tenant, places_on-held}
use Rattle.upload_book.proofs.Store.StoreLemmas.{IsPart, IsStoredTenant-part, stored_tenant_at-part}

-- the upload with an id stands at its place, where it is there
pub holders-place : (v : Inside) (s : BlockStore) (t id segment place : ℕ) (old : KeptTenant) (found : Option ℕ) → store_of v ≡ s → IsPart v t old → position (has_id id) old.uploads.items ≡ found
    → holders_at s t id segment place ≡ option_map (count_at v.pool) (option_and_then (λ u. block_at u segment place) (option_map (λ i. (get_or old.uploads.items i no_upload).kept) found))
holders-place v s t id segment place old found is part at =
    ap (λ (s : BlockStore). holders_at s t id segment place) (sym is)
    ∙ ap (λ (u : Option StoredUpload). option_map (count_at v.pool) (option_and_then (λ u. block_at u segment place) u))
    (ap (λ (stored_tenant : StoredTenant). kept_in stored_tenant.uploads id) (stored_tenant_at-part v t old part) ∙ kept_in-position old.uploads.items id no_upload ∙ ap (option_map (λ i. (get_or old.uploads.items i no_upload).kept)) at)

-- and then its block is told
pub holders-entry : (v : Inside) (s : BlockStore) (t id segment place i : ℕ) (old : KeptTenant) (e : Entry StoredUpload) → store_of v ≡ s → IsPart v t old → position (has_id id) old.uploads.items ≡ Some i → e ≡ get_or old.uploads.items i e
    → holders_at s t id segment place ≡ option_map (count_at v.pool) (block_at e.kept segment place)
holders-entry v s t id segment place i old e is part at read =
    let inside : i < length old.uploads.items = (position-Some (has_id id) old.uploads.items i no_upload at).0 in
    holders-place v s t id segment place old (Some i) is part at
    ∙ ap (λ (e : Entry StoredUpload). option_map (count_at v.pool) (block_at e.kept segment place)) (get_or_default old.uploads.items i no_upload e inside ∙ sym read)

-- a block that stands at a place of a list stands in it
pub block-listed : (blocks : List ℕ) (place b : ℕ) → slice_get blocks place ≡ Some b → 0 < places_of b blocks
block-listed blocks place b is = elim (slice_get_cases blocks place).1 [
  | inl found ↦ subst (λ n. 0 < places_of n blocks) (get_or_from_slice_get blocks place b 0 is) (places_of-at place blocks found.1)
  | inr past ↦ let none : None ≡ Some b = sym past.1 ∙ is in absurd cc
]

-- a block of an upload is one of the pool
pub block-within : (v : Inside) (t i : ℕ) (old : KeptTenant) (e : Entry StoredUpload) (segment place b : ℕ) → IsKept v → IsPart v t old → IsEntry (stored_tenant_of old) i e → block_at e.kept segment place ≡ Some b → b < size_of v.pool
block-within v t i old e segment place b kept part entry is = elim (slice_get_cases e.kept.pieces segment).1 [
  | inl found ↦
      let x : Piece = found.0 in
      let listed : slice_get x.chain.blocks place ≡ Some b = ap (option_and_then (λ (x : Piece). slice_get x.chain.blocks place)) (sym found.2) ∙ is in
      let there : Contains e.kept.pieces x = (segment, found.1, found.3) in
      let on = IsStoredOn-stored_tenant v.pool (store_of v).stored_tenants t (stored_tenant_of old) kept.stored (IsStoredTenant-part v t old part) in
      below_size v.pool b (omega (arith, block-listed x.chain.blocks place b listed, places-within b (pieces_of (stored_tenant_of old)) x (Contains-entry (stored_tenant_of old) i e x entry there), places_on-held v.pool (stored_tenant_of old) on b))
  | inr past ↦
      let none : None ≡ Some b = ap (option_and_then (λ (x : Piece). slice_get x.chain.blocks place)) (sym past.1) ∙ is in
      absurd cc
]
