-- The plain book that a book over a store stands for, and what the book keeps where its store changes.
use Rattle.std.proofs.Common.{◌≡◌, ℕ, ◌+◌, ◌-◌, ◌*◌, ◌<◌, ◌≤◌, List, [], map, length, get_or, set, slice_get, Some, None, Ok, ap, sym, subst, ◌∙◌, arith}
use Rattle.std.proofs.lemmas.List.{length-replicate}
use Rattle.std.proofs.lemmas.Option.{get_or_from_slice_get}
use Rattle.std.proofs.lemmas.Simd.{map-map}
use Rattle.std.proofs.Math.ListN.{length-map, get_or-map}
use Rattle.std.proofs.lemmas.List.{get_or-set_same}
use Rattle.std.specs.List.Sorted.{IsStrictlyIncreasing}
use Rattle.std.specs.Option.{option_and_then}
use Rattle.block_pool.specs.Blocks.{all_free, free_block, size_of}
use Rattle.block_bodies.specs.Changes.{SameSizes}
use Rattle.upload_book.specs.Book.{StoredBook, IsBook, plain_of}
use Rattle.upload_book.specs.Charge.{charge_in, charge_with}
use Rattle.upload_book.specs.declared.settings.Numbers.{Numbers}
use Rattle.upload_book.specs.declared.settings.TenantQuota.{TenantQuota}
use Rattle.upload_book.specs.Expiries.{AreExpiries}
use Rattle.upload_book.specs.ExpiryList.{ExpiryList}
use Rattle.upload_book.specs.Lawful.{IsLawful, IsTenantOf, IsUploadOf}
use Rattle.upload_book.specs.PlainBook.{answer_of, opening_book, tenant_book, with_tenant_book}
use Rattle.upload_book.specs.Settings.{AreSound, Settings}
use Rattle.upload_book.specs.BlockStore.{BlockStore, no_upload, plain_in, part_at, stored_tenant_at, entry_at, upload_at}
use Rattle.upload_book.specs.inside.Places.{IsPlaceOf, IsVisibleIn, with_upload, without_upload}
use Rattle.upload_book.specs.Stored.{StoredTenant, entry_of, part_of}
use Rattle.upload_book.specs.TenantBook.{TenantBook, Entry, kept_in, opening_part, visible_upload, with_changed}
use Rattle.upload_book.specs.Terminate.{without, given_back}
use Rattle.upload_book.specs.Upload.{Upload}
use Rattle.upload_book.proofs.Steps.BookLemmas.{book_with, IsTenantOf-book, with_tenant_book-less}
use Rattle.upload_book.proofs.Lawful.Entries.{kept_in-All, kept_in-place, visible_in-Ok, with_kept-place, without-place}
use Rattle.upload_book.proofs.Expiries.BookEnds.{HasEnd-without}
use Rattle.upload_book.proofs.Expiries.ExpirySteps.{AreExpiries-opening, IsRenewed}
use Rattle.upload_book.proofs.Lawful.LawfulFewer.{IsLawful-without, charge-terminate}
use Rattle.upload_book.proofs.Lawful.LawfulSteps.{IsLawful-opening}
use Rattle.upload_book.proofs.Charge.RoomLemmas.{released-within}

-- a tenant's part of the plain book is its stored part as the plain book has it
pub part-plain : (b : StoredBook) (t : ℕ) → tenant_book (plain_of b) t ≡ part_at b.store t
part-plain b t = get_or-map (part_of b.store.pool) b.store.stored_tenants t (opening_part 0)

-- so are the answer of a step,
pub answer-plain : {A : Type 0} (b : StoredBook) (t : ℕ) (answer : Numbers → TenantBook → A) → answer_of (plain_of b) t answer ≡ answer b.settings.numbers (part_at b.store t)
answer-plain b t answer = ap (answer b.settings.numbers) (part-plain b t)

-- and what the tenant pays
pub charge-plain_book : (b : StoredBook) (t : ℕ) → IsBook b → charge_with b.store.pool.block_size (part_at b.store t) ≡ charge_in b.settings.numbers (tenant_book (plain_of b) t)
charge-plain_book b t kept =
    ap (λ size. charge_with size (part_at b.store t)) kept.size ∙ ap (charge_in b.settings.numbers) (sym (part-plain b t))

-- each stored part has a part
pub parts-stored_tenants : (s : BlockStore) → length (plain_in s) ≡ length s.stored_tenants
parts-stored_tenants s = length-map s.stored_tenants (part_of s.pool)

-- each tenant of the settings has a stored part
pub stored_tenants-settings : (b : StoredBook) → IsBook b → length b.store.stored_tenants ≡ length b.settings.tenants
stored_tenants-settings b kept =
    sym (parts-stored_tenants b.store) ∙ sym (length-map (plain_in b.store) (λ (part : TenantBook). part.quota)) ∙ ap (length {A = ℕ}) kept.lawful.quotas ∙ length-map b.settings.tenants (λ (t : TenantQuota). t.quota)

-- a tenant with a stored part has a part
pub part-within : (b : StoredBook) (t : ℕ) → t < length b.store.stored_tenants → t < length (plain_of b).tenants
part-within b t within = omega (arith, parts-stored_tenants b.store)

-- the part of a tenant is as it should be
pub part-sound : (b : StoredBook) (t : ℕ) → IsBook b → t < length b.store.stored_tenants → IsTenantOf b.settings.numbers (part_at b.store t)
part-sound b t kept within =
    subst (IsTenantOf b.settings.numbers) (part-plain b t) (IsTenantOf-book (plain_of b) t kept.lawful (part-within b t within))

-- a tenant's quota is that of the settings
pub part-quota : (b : StoredBook) (t quota : ℕ) → IsBook b → slice_get (map {A = TenantQuota} {B = ℕ} (λ t. t.quota) b.settings.tenants) t ≡ Some quota → (tenant_book (plain_of b) t).quota ≡ quota
part-quota b t quota kept is =
    let quotas : List ℕ = map {A = TenantQuota} {B = ℕ} (λ t. t.quota) b.settings.tenants in
    sym (get_or-map (λ (part : TenantBook). part.quota) (plain_in b.store) t (opening_part 0)) ∙ ap (λ l. get_or l t 0) kept.lawful.quotas ∙ get_or_from_slice_get quotas t quota 0 is

-- there is room for as many ends as the tenants may have uploads
pub expiries-room_is : (b : StoredBook) → IsBook b → length (plain_of b).tenants * b.settings.numbers.uploads ≡ b.expiries.room
expiries-room_is b kept =
    ap (λ n. n * b.settings.numbers.uploads) (parts-stored_tenants b.store ∙ stored_tenants-settings b kept) ∙ sym kept.entries

-- the store at the start
abbrev opening_store : Settings → BlockStore
opening_store s = record {
  pool = all_free s.numbers.blocks s.numbers.block_size;
  stored_tenants = map {A = TenantQuota} {B = StoredTenant} (λ t. opening_part t.quota) s.tenants;
  room = s.numbers.uploads;
}

-- the book at the start
abbrev opened : Settings → BlockStore → ExpiryList → StoredBook
opened settings s e = record { settings = settings; store = s; charged = 0; released = 0; expiries = e }

parts-opening : (settings : Settings) → plain_in (opening_store settings) ≡ (opening_book settings).tenants
parts-opening settings = map_opening settings.tenants where
  map_opening : (tenants : List TenantQuota) → map {A = StoredTenant} {B = TenantBook} (part_of (opening_store settings).pool) (map {A = TenantQuota} {B = StoredTenant} (λ t. opening_part t.quota) tenants) ≡ map {A = TenantQuota} {B = TenantBook} (λ t. opening_part t.quota) tenants
  map_opening tenants = map-map (part_of (opening_store settings).pool) (λ (t : TenantQuota). opening_part t.quota) tenants

pub plain-opening : (settings : Settings) (s : BlockStore) (e : ExpiryList) → s ≡ opening_store settings → plain_of (opened settings s e) ≡ opening_book settings
plain-opening settings s e is =
    ap (λ s. plain_of (opened settings s e)) is ∙ ap (λ tenants. book_with (opening_book settings) tenants 0 0) (parts-opening settings)

pub IsBook-opening : (settings : Settings) (s : BlockStore) (e : ExpiryList) → AreSound settings → s ≡ opening_store settings → e ≡ record { list = []; room = length settings.tenants * settings.numbers.uploads } → IsBook (opened settings s e)
IsBook-opening settings s e sound is none = record {
  lawful = subst IsLawful (sym (plain-opening settings s e is)) (IsLawful-opening settings sound);
  size = ap (λ (s : BlockStore). s.pool.block_size) is;
  blocks = ap (λ (s : BlockStore). size_of s.pool) is ∙ length-replicate settings.numbers.blocks free_block;
  room = ap (λ (s : BlockStore). s.room) is;
  expiries = subst (λ b. AreExpiries b e.list) (sym (plain-opening settings s e is)) (subst (λ (e : ExpiryList). AreExpiries (opening_book settings) e.list) (sym none) (AreExpiries-opening settings));
  entries = ap (λ (e : ExpiryList). e.room) none;
}

-- the store in which one tenant has another part
pub record Follows (b : StoredBook) (s : BlockStore) (t : ℕ) (part : TenantBook) : Type 0 where
  pub plain : plain_in s ≡ set (plain_in b.store) t part
  pub sizes : SameSizes b.store.pool s.pool
  pub room : s.room ≡ b.store.room

-- the book over it
abbrev pub stored_with : StoredBook → BlockStore → ℕ → ℕ → StoredBook
stored_with b s charged released = record b { store = s; charged = charged; released = released }

-- stands for the plain book with this part
pub plain-follows : (b : StoredBook) (s : BlockStore) (t : ℕ) (part : TenantBook) (charged released : ℕ) → Follows b s t part
    → with_tenant_book (plain_of b) t part ≡ book_with (plain_of b) (set (plain_in b.store) t part) charged released
    → plain_of (stored_with b s charged released) ≡ with_tenant_book (plain_of b) t part
plain-follows b s t part charged released f is =
    ap (λ tenants. book_with (plain_of b) tenants charged released) f.plain ∙ sym is

-- a list of the uploads that expire once a tenant has the part, with the room of the book's
pub record IsIndex (b : StoredBook) (t : ℕ) (part : TenantBook) (e : ExpiryList) : Type 0 where
  pub expiries : AreExpiries (with_tenant_book (plain_of b) t part) e.list
  pub room : e.room ≡ b.expiries.room

-- and is a book where that is lawful
pub IsBook-follows : (b : StoredBook) (s : BlockStore) (t : ℕ) (part : TenantBook) (charged released : ℕ) (e : ExpiryList) → IsBook b → Follows b s t part
    → with_tenant_book (plain_of b) t part ≡ book_with (plain_of b) (set (plain_in b.store) t part) charged released
    → IsLawful (with_tenant_book (plain_of b) t part)
    → IsIndex b t part e
    → IsBook (record (stored_with b s charged released) { expiries = e })
IsBook-follows b s t part charged released e kept f is lawful index = record {
  lawful = subst IsLawful (sym (plain-follows b s t part charged released f is)) lawful;
  size = f.sizes.bytes ∙ kept.size;
  blocks = f.sizes.blocks ∙ kept.blocks;
  room = f.room ∙ kept.room;
  expiries = subst (λ b. AreExpiries b e.list) (sym (plain-follows b s t part charged released f is)) index.expiries;
  entries = index.room ∙ kept.entries;
}

-- the part of the tenant is then this one
pub part-follows : (b : StoredBook) (s : BlockStore) (t : ℕ) (part : TenantBook) → Follows b s t part → t < length b.store.stored_tenants → part_at s t ≡ part
part-follows b s t part f within =
    let inside : t < length (plain_in b.store) = omega (arith, parts-stored_tenants b.store) in
    sym (get_or-map (part_of s.pool) s.stored_tenants t (opening_part 0)) ∙ ap (λ tenants. get_or tenants t (opening_part 0)) f.plain ∙ get_or-set_same (plain_in b.store) t part (opening_part 0) inside

-- an upload that ends, and the blocks that its tenant no longer pays
pub record Removes (b : StoredBook) (s : BlockStore) (t id freed : ℕ) : Type 0 where
  pub kept : IsBook b
  pub within : t < length b.store.stored_tenants
  pub follows : Follows b s t (without (tenant_book (plain_of b) t) id)
  pub pays : charge_in b.settings.numbers (without (tenant_book (plain_of b) t) id) + freed ≡ charge_in b.settings.numbers (tenant_book (plain_of b) t)

-- they are what is given back
pub removes-freed : (b : StoredBook) (s : BlockStore) (t id freed : ℕ) → Removes b s t id freed → given_back b.settings.numbers (tenant_book (plain_of b) t) (without (tenant_book (plain_of b) t) id) ≡ freed
removes-freed b s t id freed f = less _ _ _ f.pays where
  less : (before after freed : ℕ) → after + freed ≡ before → before - after ≡ freed
  less before after freed is = omega arith

removes-totals : (b : StoredBook) (s : BlockStore) (t id freed : ℕ) → Removes b s t id freed
    → with_tenant_book (plain_of b) t (without (tenant_book (plain_of b) t) id) ≡ book_with (plain_of b) (set (plain_in b.store) t (without (tenant_book (plain_of b) t) id)) b.charged (b.released + freed)
removes-totals b s t id freed f =
    let part : TenantBook = tenant_book (plain_of b) t in
    with_tenant_book-less (plain_of b) t (without part id) (charge-terminate b.settings.numbers part id)
    ∙ ap (λ back. book_with (plain_of b) (set (plain_in b.store) t (without part id)) b.charged (b.released + back)) (removes-freed b s t id freed f)

-- it leaves a book
pub IsBook-removes : (b : StoredBook) (s : BlockStore) (t id freed : ℕ) (e : ExpiryList) → Removes b s t id freed → IsIndex b t (without (tenant_book (plain_of b) t) id) e → IsBook (record (stored_with b s b.charged (b.released + freed)) { expiries = e })
IsBook-removes b s t id freed e f index =
    IsBook-follows b s t (without (tenant_book (plain_of b) t) id) b.charged (b.released + freed) e f.kept f.follows (removes-totals b s t id freed f)
    (IsLawful-without (plain_of b) t id f.kept.lawful (part-within b t f.within)) index

-- that stands for the plain book without it
pub plain-removes : (b : StoredBook) (s : BlockStore) (t id freed : ℕ) → Removes b s t id freed → plain_of (stored_with b s b.charged (b.released + freed)) ≡ with_tenant_book (plain_of b) t (without (tenant_book (plain_of b) t) id)
plain-removes b s t id freed f =
    plain-follows b s t (without (tenant_book (plain_of b) t) id) b.charged (b.released + freed) f.follows (removes-totals b s t id freed f)

-- what is released is within what was charged
pub removes-within : (b : StoredBook) (s : BlockStore) (t id freed : ℕ) → Removes b s t id freed → b.released + freed ≤ b.charged
removes-within b s t id freed f =
    omega (arith, removes-freed b s t id freed f, released-within (plain_of b) t (without (tenant_book (plain_of b) t) id) f.kept.lawful (part-within b t f.within))

-- The upload at a place that a request sees.
module _ (b : StoredBook) (t id place now : ℕ) (kept : IsBook b) (within : t < length b.store.stored_tenants) (seen : IsVisibleIn b.store t id now place) where
  -- the plain book's part of its tenant
  abbrev pub seen_part : TenantBook
  seen_part = tenant_book (plain_of b) t

  -- the plain book shows it
  pub seen-visible : visible_upload seen_part id now ≡ Ok (upload_at b.store t place)
  seen-visible = ap (λ part. visible_upload part id now) (part-plain b t) ∙ seen.visible

  -- it is kept under the id
  pub seen-kept : kept_in seen_part.uploads id ≡ Some (upload_at b.store t place)
  seen-kept = visible_in-Ok (λ (u : Upload). u.expires) seen_part id now (upload_at b.store t place) seen-visible

  -- the tenant's part is as it should be
  pub seen-sound : IsTenantOf b.settings.numbers seen_part
  seen-sound = IsTenantOf-book (plain_of b) t kept.lawful (part-within b t within)

  -- and the upload
  pub seen-upload : IsUploadOf b.settings.numbers seen_part (upload_at b.store t place)
  seen-upload = kept_in-All (IsUploadOf b.settings.numbers seen_part) seen_part.uploads id (upload_at b.store t place) seen-sound.uploads seen-kept

  -- it stands there
  pub seen-placed : IsPlaceOf b.store t id place
  seen-placed = record { there = seen.there; named = seen.named }

-- The upload at a place, whether a request sees it or not.
module _ (b : StoredBook) (t id place : ℕ) (kept : IsBook b) (within : t < length b.store.stored_tenants) (placed : IsPlaceOf b.store t id place) where
  -- the plain book's part of its tenant
  abbrev pub placed_part : TenantBook
  placed_part = tenant_book (plain_of b) t

  abbrev nothing : Entry Upload
  nothing = entry_of b.store.pool no_upload

  placed-there : place < length (part_at b.store t).uploads
  placed-there = omega (arith, placed.there, length-map (stored_tenant_at b.store t).uploads (entry_of b.store.pool))

  placed-entry : get_or (part_at b.store t).uploads place nothing ≡ entry_of b.store.pool (entry_at b.store t place)
  placed-entry = get_or-map (entry_of b.store.pool) (stored_tenant_at b.store t).uploads place no_upload

  placed-named : (get_or (part_at b.store t).uploads place nothing).id ≡ id
  placed-named = ap (λ (e : Entry Upload). e.id) placed-entry ∙ placed.named

  placed-ascending : IsStrictlyIncreasing (map {A = Entry Upload} {B = ℕ} (λ e. e.id) (part_at b.store t).uploads)
  placed-ascending = (part-sound b t kept within).ascending

  -- it is kept under the id
  pub placed-kept : kept_in placed_part.uploads id ≡ Some (upload_at b.store t place)
  placed-kept =
      ap (λ (part : TenantBook). kept_in part.uploads id) (part-plain b t) ∙ kept_in-place (part_at b.store t).uploads id place nothing placed-ascending placed-there placed-named
      ∙ ap (λ (e : Entry Upload). Some e.kept) placed-entry

  -- without it there is one end less
  pub placed-renewed : IsRenewed (plain_of b) b.expiries.list t id (without placed_part id) (upload_at b.store t place).expires None
  placed-renewed = record {
    lawful = kept.lawful;
    are = kept.expiries;
    within = part-within b t within;
    was = ap (λ found. option_and_then (λ (u : Upload). u.expires) found) placed-kept;
    has = HasEnd-without placed_part id;
    after = IsLawful-without (plain_of b) t id kept.lawful (part-within b t within);
  }

  -- another upload at its place is another one under its id
  pub placed-changed : (u : Upload) → with_upload (part_at b.store t) place (record { id = (entry_at b.store t place).id; kept = u }) ≡ with_changed placed_part id u
  placed-changed u =
      ap (λ named. with_upload (part_at b.store t) place (record { id = named; kept = u })) placed.named
      ∙ ap (λ uploads. record (part_at b.store t) { uploads = uploads }) (sym (with_kept-place (part_at b.store t).uploads id place nothing u placed-ascending placed-there placed-named))
      ∙ ap (λ part. with_changed part id u) (sym (part-plain b t))

  -- without its place there is nothing under its id
  pub placed-without : without_upload (part_at b.store t) place ≡ without placed_part id
  placed-without =
      ap (λ uploads. record (part_at b.store t) { uploads = uploads }) (sym (without-place (part_at b.store t).uploads id place nothing placed-ascending placed-there placed-named))
      ∙ ap (λ part. without part id) (sym (part-plain b t))

  -- the store without it
  pub placed-removes : (s : BlockStore) (freed : ℕ) → plain_in s ≡ set (plain_in b.store) t (without_upload (part_at b.store t) place) → charge_with b.store.pool.block_size (part_at s t) + freed ≡ charge_with b.store.pool.block_size (part_at b.store t)
      → SameSizes b.store.pool s.pool → s.room ≡ b.store.room → Removes b s t id freed
  placed-removes s freed plain pays sizes room =
      let follows : Follows b s t (without placed_part id) = record { plain = plain ∙ ap (set (plain_in b.store) t) placed-without; sizes = sizes; room = room } in
      let after : charge_with b.store.pool.block_size (part_at s t) ≡ charge_in b.settings.numbers (without placed_part id) =
      ap (λ size. charge_with size (part_at s t)) kept.size ∙ ap (charge_in b.settings.numbers) (part-follows b s t (without placed_part id) follows within) in
      record {
        kept = kept;
        within = within;
        follows = follows;
        pays = omega (arith, pays, after, charge-plain_book b t kept);
      }
