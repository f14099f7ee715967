-- The blocks of a book hold the plain book that it stands for.
use Rattle.std.proofs.Common.{◌≡◌, ◌≢◌, ◌⊎◌, ℕ, ◌+◌, ◌<◌, ◌≤◌, [], ◌∷◌, map, length, get_or, Option, None, Some, option_map, inl, inr, refl, sym, ap, subst, ◌∙◌, arith}
use Rattle.std.specs.List.{sum_by, All, Contains, position}
use Rattle.std.proofs.lemmas.Bool.{cases_lt}
use Rattle.std.proofs.lemmas.Bool.Decides.{nat_tests}
use Rattle.std.proofs.lemmas.List.{get_or_default, get_or_past}
use Rattle.std.proofs.lemmas.List.Quantifiers.{position-Some}
use Rattle.std.proofs.Math.ListN.{get_or-map}
use Rattle.block_pool.specs.Blocks.{count_at, free_in, places_of, size_of}
use Rattle.block_pool.proofs.BlocksLaws.{places_of-at}
use Rattle.block_bodies.specs.Bodies.{Chain}
use Rattle.upload_book.specs.BlockBook.{AreOwn, Extent, FitsPool, HoldsBook, blocks_of, extent_of, holders_in, tenant_extents}
use Rattle.upload_book.specs.BlockStore.{no_upload, part_at, plain_in, stored_tenant_at}
use Rattle.upload_book.specs.Book.{StoredBook, IsBook, plain_of}
use Rattle.upload_book.specs.Charge.{charge_with}
use Rattle.upload_book.specs.declared.head_row.Kind.TheVariants.{Plain, Partial, Final}
use Rattle.upload_book.specs.declared.settings.Numbers.{Numbers}
use Rattle.upload_book.specs.declared.pieces.Piece.{Piece}
use Rattle.upload_book.specs.inside.Pieces.{HasOwnPiece, own_chain}
use Rattle.upload_book.specs.Lawful.{IsOfKind, IsUploadOf}
use Rattle.upload_book.specs.Stored.{StoredTenant, StoredUpload, HoldsPieces, upload_of}
use Rattle.upload_book.specs.TenantBook.{Entry, TenantBook, kept_in, opening_part}
use Rattle.upload_book.specs.Upload.{Upload, IsComplete}
use Rattle.upload_book.proofs.Charge.ChargeLemmas.{uploads-sole}
use Rattle.upload_book.proofs.Charge.InUse.{Contains-cases, Contains-none}
use Rattle.upload_book.proofs.Lawful.Entries.{has_id, kept_in-All, kept_in-position}
use Rattle.upload_book.proofs.Lawful.SeenLemmas.{kept_in-plain}
use Rattle.upload_book.proofs.Steps.BookSteps.{part-plain, part-sound}
use Rattle.upload_book.proofs.Store.AloneLemmas.{alone-store}
use Rattle.upload_book.proofs.Store.BlockBookLemmas.{AreCounted-stored, AreExtents-stored, kept_in-extents, read-tenants}
use Rattle.upload_book.proofs.Store.Pieces.{IsEntry}
use Rattle.upload_book.proofs.Store.PutLemmas.{IsAlone, own-count, own_piece}
use Rattle.upload_book.proofs.Store.StoredTenants.{IsStoredOn-stored_tenant}

-- the pool is that of the settings
fits : (b : StoredBook) → IsBook b → free_in b.store.pool + sum_by (charge_with b.store.pool.block_size) (plain_in b.store) ≡ size_of b.store.pool → FitsPool b.store.pool (plain_of b)
fits b kept in_use = record {
  size = kept.size;
  blocks = kept.blocks;
  free = ap (λ size. free_in b.store.pool + sum_by (charge_with size) (plain_in b.store)) (sym kept.size) ∙ in_use;
}

-- an upload that is no final one and no part that has all of its bytes
abbrev IsSole : Upload → Type 0
IsSole u = (u.kind ≡ Plain) ⊎ ¬ (IsComplete u)

-- it is no complete partial one
sole-partial : (u : Upload) → IsSole u → u.kind ≡ Partial → ¬ (IsComplete u)
sole-partial u (inl plain) partial = absurd (let same : Plain ≡ Partial = sym plain ∙ partial in cc)
sole-partial u (inr not) partial = not

-- and no final one
sole-kind : (n : Numbers) (part : TenantBook) (u : Upload) → IsUploadOf n part u → IsSole u → u.kind ≢ Final
sole-kind n part u lawful (inl plain) final = let same : Plain ≡ Final = sym plain ∙ final in absurd cc
sole-kind n part u lawful (inr not) final = not (subst (IsOfKind part u) final lawful.kind).1

-- what is under an id stands at a place
pub record StandsAt (t : StoredTenant) (id i : ℕ) (e : Entry StoredUpload) : Type 0 where
  pub entry : IsEntry t i e
  pub named : e.id ≡ id
  pub kept : kept_in t.uploads id ≡ Some e.kept

stands : (t : StoredTenant) (id : ℕ) (found : Option ℕ) (u : StoredUpload) → position (has_id id) t.uploads ≡ found → kept_in t.uploads id ≡ Some u → (i : ℕ) × (e : Entry StoredUpload) × StandsAt t id i e
stands t id None u at is =
    let none : None ≡ Some u = sym (kept_in-position t.uploads id no_upload ∙ ap (option_map (λ i. (get_or t.uploads i no_upload).kept)) at) ∙ is in
    absurd cc
stands t id (Some i) u at is =
    let e : Entry StoredUpload = get_or t.uploads i no_upload in
    let there = position-Some (has_id id) t.uploads i no_upload at in (
      i,
      e,
      record {
        entry = record { within = there.0; read = get_or_default t.uploads i no_upload e there.0 };
        named = let passes = there.1 in grind (arith, nat_tests);
        kept = kept_in-position t.uploads id no_upload ∙ ap (option_map (λ i. (get_or t.uploads i no_upload).kept)) at;
      },
    )

-- what every book has under a name: the upload is kept at a place of its tenant's part
module _ (b : StoredBook) (t id : ℕ) (kept : IsBook b) (stored : HoldsPieces b.store.pool b.store.stored_tenants) (own : All (λ (s : StoredTenant). All HasOwnPiece s.uploads) b.store.stored_tenants) (within : t < length b.store.stored_tenants) where
  abbrev here : StoredTenant
  here = stored_tenant_at b.store t

  -- nobody else has the bytes of one that no final upload has as a part
  sole-alone : (i : ℕ) (e : Entry StoredUpload) → StandsAt here id i e → IsSole (upload_of b.store.pool e.kept) → IsAlone here i e.id
  sole-alone i e at sole =
      let part = part_at b.store t in
      let u : Upload = upload_of b.store.pool e.kept in
      let sound = part-sound b t kept within in
      let there : kept_in part.uploads id ≡ Some u = kept_in-plain b.store.pool here.uploads id ∙ ap (option_map (upload_of b.store.pool)) at.kept in
      let lawful = kept_in-All (λ (u : Upload). IsUploadOf b.settings.numbers part u) part.uploads id u sound.uploads there in
      let placed : get_or here.uploads i no_upload ≡ e = get_or_default here.uploads i no_upload e at.entry.within ∙ sym at.entry.read in
      alone-store b.store t i e (own t (opening_part 0) within) at.entry (record {
        own = subst (λ (e : Entry StoredUpload). e.kept.kind ≢ Final) (sym placed) (sole-kind b.settings.numbers part u lawful sole);
        ids = sound.ascending;
        parts = subst (λ (named : ℕ). All (λ (e : Entry Upload). e.kept.kind ≡ Final → All (λ o. o ≢ named) e.kept.parts) part.uploads) (sym (ap (λ (e : Entry StoredUpload). e.id) placed ∙ at.named))
            (uploads-sole b.settings.numbers part id u sound there (sole-partial u sole));
      })

  -- so each of its blocks has one holder
  sole-count : (i block : ℕ) (e : Entry StoredUpload) (x : Extent) → StandsAt here id i e → IsSole (upload_of b.store.pool e.kept)
      → Contains (map {A = Piece} {B = Extent} extent_of e.kept.pieces) x → Contains x.blocks block → count_at b.store.pool block ≡ 1
  sole-count i block e x at sole listed stands =
      let part = part_at b.store t in
      let u : Upload = upload_of b.store.pool e.kept in
      let chain : Chain = own_chain e.kept.pieces in
      let there : kept_in part.uploads id ≡ Some u = kept_in-plain b.store.pool here.uploads id ∙ ap (option_map (upload_of b.store.pool)) at.kept in
      let lawful = kept_in-All (λ (u : Upload). IsUploadOf b.settings.numbers part u) part.uploads id u (part-sound b t kept within).uploads there in
      let placed : get_or here.uploads i no_upload ≡ e = get_or_default here.uploads i no_upload e at.entry.within ∙ sym at.entry.read in
      let one : e.kept.pieces ≡ own_piece e.id chain ∷ [] = subst HasOwnPiece placed (own t (opening_part 0) within i no_upload at.entry.within) (sole-kind b.settings.numbers part u lawful sole) in
      let only : Contains (extent_of (own_piece e.id chain) ∷ []) x = subst (λ pieces. Contains (map {A = Piece} {B = Extent} extent_of pieces) x) one listed in
      elim (Contains-cases (extent_of (own_piece e.id chain)) x [] only) [
        | inr none ↦ absurd (Contains-none x none)
        | inl same ↦
            let at_block = subst (λ (x : Extent). Contains x.blocks block) (sym same) stands in
            let some : 0 < places_of block chain.blocks =
            subst (λ b. 0 < places_of b chain.blocks) (get_or_default chain.blocks at_block.0 0 block at_block.1 ∙ at_block.2) (places_of-at at_block.0 chain.blocks at_block.1) in
            own-count b.store.pool here i e chain (IsStoredOn-stored_tenant b.store.pool b.store.stored_tenants t here stored (record { within = within; read = get_or_default b.store.stored_tenants t (opening_part 0) here within })) at.entry one (sole-alone i e at sole) block some
      ]

-- what is there is one thing
same-some : {A : Type 0} (x y : A) → Some x ≡ Some y → x ≡ y
same-some x y same = cc

-- the blocks of an upload that no final one has as a part have one holder each
own-blocks : (b : StoredBook) → IsBook b → HoldsPieces b.store.pool b.store.stored_tenants → All (λ (s : StoredTenant). All HasOwnPiece s.uploads) b.store.stored_tenants → AreOwn (blocks_of b) (plain_of b)
own-blocks b kept stored own name u extents x block there has sole listed stands_in = elim (cases_lt name.tenant (length b.store.stored_tenants)) [
  | inr past ↦ absurd (nothing past)
  | inl within ↦
      let s = stored_tenant_at b.store name.tenant in
      let upload : option_map (upload_of b.store.pool) (kept_in s.uploads name.id) ≡ Some u =
      sym (kept_in-plain b.store.pool s.uploads name.id) ∙ ap (λ part. kept_in part.uploads name.id) (sym (part-plain b name.tenant)) ∙ there in
      let of_tenant : get_or (blocks_of b).tenants name.tenant [] ≡ tenant_extents s = get_or-map tenant_extents b.store.stored_tenants name.tenant (opening_part 0) in
      let known : option_map (λ (u : StoredUpload). map {A = Piece} {B = Extent} extent_of u.pieces) (kept_in s.uploads name.id) ≡ Some extents =
      sym (kept_in-extents s.uploads name.id) ∙ ap (λ uploads. kept_in uploads name.id) (sym of_tenant) ∙ has in
      by (kept_in s.uploads name.id) within refl upload known
]
  where
    nothing : length b.store.stored_tenants ≤ name.tenant → ⊥
    nothing past =
        let s : StoredTenant = stored_tenant_at b.store name.tenant in
        let none : s ≡ opening_part 0 = get_or_past b.store.stored_tenants name.tenant (opening_part 0) past in
        let empty : None ≡ Some u = sym (kept_in-plain b.store.pool s.uploads name.id ∙ ap (λ (s : StoredTenant). option_map (upload_of b.store.pool) (kept_in s.uploads name.id)) none) ∙ ap (λ part. kept_in part.uploads name.id) (sym (part-plain b name.tenant)) ∙ there in
        absurd cc

    by : (found : Option StoredUpload) → name.tenant < length b.store.stored_tenants → kept_in (stored_tenant_at b.store name.tenant).uploads name.id ≡ found
        → option_map (upload_of b.store.pool) found ≡ Some u → option_map (λ (u : StoredUpload). map {A = Piece} {B = Extent} extent_of u.pieces) found ≡ Some extents → holders_in (blocks_of b) block ≡ 1
    by None within is upload known = absurd cc
    by (Some kept_so) within is upload known =
        let s : StoredTenant = stored_tenant_at b.store name.tenant in
        let at = stands s name.id (position (has_id name.id) s.uploads) kept_so refl is in
        let same : at.1.kept ≡ kept_so = same-some at.1.kept kept_so (sym at.2.kept ∙ is) in
        let is_upload : upload_of b.store.pool at.1.kept ≡ u = ap (upload_of b.store.pool) same ∙ same-some (upload_of b.store.pool kept_so) u upload in
        let are_extents : map {A = Piece} {B = Extent} extent_of at.1.kept.pieces ≡ extents = ap (λ (u : StoredUpload). map {A = Piece} {B = Extent} extent_of u.pieces) same ∙ same-some (map {A = Piece} {B = Extent} extent_of kept_so.pieces) extents known in
        sym ((AreCounted-stored b.store.pool b.store.stored_tenants stored).counts block)
        ∙ sole-count b name.tenant name.id kept stored own within at.0 block at.1 x at.2 (subst IsSole (sym is_upload) sole) (subst (λ extents. Contains extents x) (sym are_extents) listed) stands_in

-- all that a book says of its blocks
pub holds : (b : StoredBook) → IsBook b → HoldsPieces b.store.pool b.store.stored_tenants → All (λ (s : StoredTenant). All HasOwnPiece s.uploads) b.store.stored_tenants
    → free_in b.store.pool + sum_by (charge_with b.store.pool.block_size) (plain_in b.store) ≡ size_of b.store.pool → HoldsBook (blocks_of b) (plain_of b)
holds b kept stored own in_use = record {
  fits = fits b kept in_use;
  counted = AreCounted-stored b.store.pool b.store.stored_tenants stored;
  extents = AreExtents-stored b.store.pool b.store.stored_tenants stored;
  own = own-blocks b kept stored own;
  read = read-tenants b.store.pool b.store.stored_tenants;
}
