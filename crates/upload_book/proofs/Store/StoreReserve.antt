-- The store where room is made in the list of the blocks of an upload: as where no bytes are put at its end.
use Rattle.std.proofs.Common.{◌≡◌, ◌≢◌, ℕ, ◌<◌, List, [], ◌∷◌, ◌++◌, length, get_or, set, refl, sym, ap, ◌∙◌, subst, append-nil, arith}
use Rattle.std.proofs.lemmas.List.{get_or-set_same, set-get_or}
use Rattle.std.proofs.Math.ListN.{get_or-map, length-set}
use Rattle.std.proofs.Math.Seq.{take-length}
use Rattle.block_pool.specs.Blocks.{Blocks}
use Rattle.block_bodies.specs.Bodies.{Chain, IsBodyOf, StandsOnce}
use Rattle.block_bodies.specs.Changes.{Puts}
use Rattle.upload_book.specs.declared.head_row.Kind.TheVariants.{Final}
use Rattle.upload_book.specs.declared.stored_tenant.StoredTenant.{StoredTenant as KeptTenant}
use Rattle.upload_book.specs.declared.block_store.BlockStore.TheInside.{Inside}
use Rattle.upload_book.specs.inside.Kept.{stored_tenant_of, store_of, HasUploadRoom, IsKept}
use Rattle.upload_book.specs.BlockStore.{entry_at, plain_in, part_at}
use Rattle.upload_book.specs.inside.Places.{with_bytes, with_chain, with_upload}
use Rattle.upload_book.specs.Stored.{StoredTenant, StoredUpload, entry_of, part_of, upload_of}
use Rattle.upload_book.specs.inside.Pieces.{own_chain}
use Rattle.upload_book.specs.TenantBook.{Entry, opening_part}
use Rattle.upload_book.specs.Upload.{Upload, content_of}
use Rattle.upload_book.proofs.Store.Pieces.{IsEntry}
use Rattle.upload_book.proofs.Store.PlainStoredTenants.{content-own, segments-own}
use Rattle.upload_book.proofs.Store.PutLemmas.{IsAlone}
use Rattle.upload_book.proofs.Store.StoreAppend.{IsPutIn, PutsIn, IsKept-put, body-read, own-read, plain-put}
use Rattle.upload_book.proofs.Store.StoreLemmas.{IsPart, entry_at-read, stored_tenant_at-part, with_stored_tenant, with_stored_tenant-part}

-- a body to which nothing is put, but whose list may have other room
puts-nothing : (p : Blocks) (x : Chain) (room : ℕ) → IsBodyOf p x → Puts p x [] p (record x { room = room })
puts-nothing p x room body = record {
  sizes = record { blocks = refl; bytes = refl };
  body = record { held = body.held; blocks = body.blocks };
  len = omega arith;
  content = sym (append-nil _);
  front = take-length x.blocks;
  counts = λ b. refl;
  others = λ b few. refl;
  fresh = λ b more. absurd (omega (arith, more));
  free = refl;
  last = λ own. record { own = own.own };
}

-- what is put at the end of a body does not depend on the room of its list
pub puts-roomy : (p : Blocks) (x : Chain) (room : ℕ) (bytes : List ℕ) (q : Blocks) (y : Chain) → Puts p (record x { room = room }) bytes q y → Puts p x bytes q y
puts-roomy p x room bytes q y f = record {
  sizes = f.sizes;
  body = f.body;
  len = f.len;
  content = f.content;
  front = f.front;
  counts = f.counts;
  others = f.others;
  fresh = f.fresh;
  free = f.free;
  last = λ own. f.last (record { own = own.own });
}

-- an upload that is not final is read in a part, which then has it with another list of the same blocks
pub record IsReserved (v : Inside) (t i : ℕ) (old changed : KeptTenant) (e : Entry StoredUpload) (y : Chain) : Type 0 where
  pub part : IsPart v t old
  pub entry : IsEntry (stored_tenant_of old) i e
  pub own : e.kept.kind ≢ Final
  pub alone : IsAlone (stored_tenant_of old) i e.id
  pub chain : y ≡ record (own_chain e.kept.pieces) { room = y.room }
  pub once : StandsOnce y.blocks
  pub quota : changed.quota ≡ old.quota
  pub next : changed.next ≡ old.next
  pub charge : changed.charge ≡ old.charge
  pub uploads : changed.uploads.items ≡ set old.uploads.items i (with_chain e y)
  pub room : HasUploadRoom v.room changed

module _ (v : Inside) (t i : ℕ) (old changed : KeptTenant) (e : Entry StoredUpload) (y : Chain) (kept : IsKept v) (is : IsReserved v t i old changed e y) where
  puts : PutsIn v t i old e [] v.pool y
  puts = record {
    part = is.part;
    entry = is.entry;
    own = is.own;
    alone = is.alone;
    puts = subst (Puts v.pool (own_chain e.kept.pieces) [] v.pool) (sym is.chain) (puts-nothing v.pool (own_chain e.kept.pieces) y.room (body-read v t i old e kept is.part is.entry is.own));
    once = is.once;
  }

  put : IsPutIn v i old changed e y e.kept.declared e.kept.expires 0
  put = record {
    quota = is.quota;
    next = is.next;
    charge = omega (arith, is.charge);
    uploads = is.uploads;
    room = is.room;
    more = omega (arith, ap (λ (x : Chain). length x.blocks) is.chain);
  }

  -- the store is kept
  pub IsKept-reserved : IsKept (with_stored_tenant v v.pool t changed)
  IsKept-reserved = IsKept-put v t i old changed e [] v.pool y e.kept.declared e.kept.expires 0 kept puts put

  -- an upload with no bytes at its end is the same
  same_upload : with_bytes (upload_of v.pool e.kept) [] e.kept.declared e.kept.expires ≡ upload_of v.pool e.kept
  same_upload =
      let piece = own-read v t i old e kept is.part is.entry is.own in
      let x = own_chain e.kept.pieces in
      let segments : (content_of (upload_of v.pool e.kept) ++ []) ∷ [] ≡ (upload_of v.pool e.kept).segments =
      ap (λ (l : List ℕ). l ∷ []) (append-nil (content_of (upload_of v.pool e.kept)) ∙ content-own v.pool e.kept e.id x piece) ∙ sym (segments-own v.pool e.kept e.id x piece) in
      ap (λ (l : List (List ℕ)). record (upload_of v.pool e.kept) { segments = l }) segments

  -- and its part stays
  same_part : with_upload (part_at (store_of v) t) i (record { id = e.id; kept = upload_of v.pool e.kept }) ≡ part_at (store_of v) t
  same_part =
      let stored_tenant = stored_tenant_at-part v t old is.part in
      ap (λ (s : StoredTenant). with_upload (part_of v.pool s) i (entry_of v.pool e)) stored_tenant
      ∙ ap (λ (uploads : List (Entry Upload)). record (part_of v.pool (stored_tenant_of old)) { uploads = uploads })
      (ap (set (part_of v.pool (stored_tenant_of old)).uploads i) (ap (entry_of v.pool) is.entry.read ∙ sym (get_or-map (entry_of v.pool) (stored_tenant_of old).uploads i e)) ∙ set-get_or (part_of v.pool (stored_tenant_of old)).uploads i (entry_of v.pool e))
      ∙ ap (part_of v.pool) (sym stored_tenant)

  -- the plain book sees nothing of it
  pub plain-reserved : plain_in (store_of (with_stored_tenant v v.pool t changed)) ≡ plain_in (store_of v)
  plain-reserved =
      plain-put v t i old changed e [] v.pool y e.kept.declared e.kept.expires 0 kept puts put
      ∙ ap (λ u. set (plain_in (store_of v)) t (with_upload (part_at (store_of v) t) i (record { id = e.id; kept = u }))) same_upload
      ∙ ap (set (plain_in (store_of v)) t) (same_part ∙ sym (get_or-map (part_of v.pool) (store_of v).stored_tenants t (opening_part 0)))
      ∙ set-get_or (plain_in (store_of v)) t (opening_part 0)

  -- the list of blocks stands at the place
  pub chain-reserved : own_chain (entry_at (store_of (with_stored_tenant v v.pool t changed)) t i).kept.pieces ≡ y
  chain-reserved =
      let w = with_stored_tenant v v.pool t changed in
      let within : i < length old.uploads.items = is.entry.within in
      let entry : IsEntry (stored_tenant_of changed) i (with_chain e y) = record {
        within = omega (arith, within, ap (length {A = Entry StoredUpload}) is.uploads, length-set old.uploads.items i (with_chain e y));
        read = sym (ap (λ (items : List (Entry StoredUpload)). get_or items i (with_chain e y)) is.uploads ∙ get_or-set_same old.uploads.items i (with_chain e y) (with_chain e y) within);
      } in
      ap (λ (e : Entry StoredUpload). own_chain e.kept.pieces) (entry_at-read w (store_of w) t i changed (with_chain e y) refl (with_stored_tenant-part v v.pool t old changed is.part) entry)
