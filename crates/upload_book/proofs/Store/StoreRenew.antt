-- The store where an upload is told its length and its end.
use Rattle.std.proofs.Common.{◌≡◌, ◌≢◌, ℕ, List, [], ◌∷◌, ◌++◌, set, Option, refl, sym, ap, ◌∙◌, subst, append-nil}
use Rattle.std.specs.List.{All}
use Rattle.std.proofs.lemmas.List.Elements.{All-set}
use Rattle.upload_book.specs.Charge.{charge_with}
use Rattle.upload_book.specs.declared.head_row.Kind.TheVariants.{Final}
use Rattle.upload_book.specs.declared.stored_tenant.StoredTenant.{StoredTenant as KeptTenant}
use Rattle.upload_book.specs.declared.block_store.BlockStore.TheInside.{Inside}
use Rattle.upload_book.specs.inside.Kept.{stored_tenant_of, store_of, AreInOrder, HasUploadRoom, IsKept}
use Rattle.upload_book.specs.BlockStore.{plain_in, part_at}
use Rattle.upload_book.specs.inside.Places.{with_head, with_upload, with_bytes}
use Rattle.upload_book.specs.Stored.{StoredTenant, StoredUpload, part_of, upload_of, pieces_of, charge_on, HoldsPieces}
use Rattle.upload_book.specs.inside.Pieces.{own_chain, ReadsWhole, HasOwnPiece, HasNoLaterPiece}
use Rattle.upload_book.specs.TenantBook.{Entry}
use Rattle.upload_book.specs.Upload.{content_of}
use Rattle.upload_book.proofs.Store.InOrder.{AreInOrder-set}
use Rattle.upload_book.proofs.Store.Pieces.{IsEntry, with_entry}
use Rattle.upload_book.proofs.Store.PlainStoredTenants.{content-own, part-with_entry, segments-own}
use Rattle.upload_book.proofs.Store.StayLemmas.{pieces-same, HoldsPieces-same, same-charge}
use Rattle.upload_book.proofs.Store.StoreAppend.{own-read}
use Rattle.upload_book.proofs.Store.StoreLemmas.{with_stored_tenant, with_stored_tenant-part, IsPart, IsStoredTenant-part, stored_tenant_at-part, own-part, order-part, reads-part, charge-part, charge_with-part, IsKept-with_stored_tenant, plain_in-with_stored_tenant}

-- an upload that is not final is read in a part, which then has it with this length and this end
pub record IsRenewed (v : Inside) (t i : ℕ) (old changed : KeptTenant) (e : Entry StoredUpload) (declared expires : Option ℕ) : Type 0 where
  pub part : IsPart v t old
  pub entry : IsEntry (stored_tenant_of old) i e
  pub own : e.kept.kind ≢ Final
  pub quota : changed.quota ≡ old.quota
  pub next : changed.next ≡ old.next
  pub charge : changed.charge ≡ old.charge
  pub uploads : changed.uploads.items ≡ set old.uploads.items i (with_head e declared expires)
  pub room : HasUploadRoom v.room changed

module _ (v : Inside) (t i : ℕ) (old changed : KeptTenant) (e : Entry StoredUpload) (declared expires : Option ℕ) (kept : IsKept v) (is : IsRenewed v t i old changed e declared expires) where
  stored_tenant : stored_tenant_of changed ≡ with_entry (stored_tenant_of old) i (with_head e declared expires)
  stored_tenant = rw (is.quota, is.next, is.uploads) refl

  -- its own piece stays
  single : HasOwnPiece (with_head e declared expires)
  single = subst (λ (e : Entry StoredUpload). HasOwnPiece (with_head e declared expires)) (sym is.entry.read) (own-part v t old kept is.part i e is.entry.within)

  -- the store is kept
  pub IsKept-renewed : IsKept (with_stored_tenant v v.pool t changed)
  IsKept-renewed =
      let part = IsStoredTenant-part v t old is.part in
      let new = with_head e declared expires in
      IsKept-with_stored_tenant v v.pool t old changed kept is.part (record { blocks = refl; bytes = refl })
      (subst (λ (s : StoredTenant). HoldsPieces v.pool (set (store_of v).stored_tenants t s)) (sym stored_tenant) (HoldsPieces-same v.pool (store_of v).stored_tenants t (stored_tenant_of old) i e new kept.stored part is.entry refl))
      (λ k other there differs b some. refl)
      (subst (λ (s : StoredTenant). All HasOwnPiece s.uploads) (sym stored_tenant) (All-set HasOwnPiece (stored_tenant_of old).uploads i new single (own-part v t old kept is.part)))
      (subst (λ (s : StoredTenant). ReadsWhole v.pool (pieces_of s)) (sym stored_tenant) (subst (ReadsWhole v.pool) (sym (pieces-same (stored_tenant_of old) i e new is.entry refl)) (reads-part v t old kept is.part)))
      (subst AreInOrder (sym stored_tenant) (AreInOrder-set (stored_tenant_of old) i e new is.entry refl (subst HasNoLaterPiece (sym is.entry.read) ((order-part v t old kept is.part).origins i e is.entry.within)) (order-part v t old kept is.part)))
      (is.charge ∙ charge-part v t old kept is.part ∙ sym (same-charge v.pool.block_size (stored_tenant_of old) i e new is.entry refl) ∙ ap (charge_on v.pool.block_size) (sym stored_tenant))
      is.room

  -- the plain book's upload has this length and this end
  pub plain-renewed : plain_in (store_of (with_stored_tenant v v.pool t changed))
      ≡ set (plain_in (store_of v)) t (with_upload (part_at (store_of v) t) i (record { id = e.id; kept = with_bytes (upload_of v.pool e.kept) [] declared expires }))
  plain-renewed =
      let piece = own-read v t i old e kept is.part is.entry is.own in
      let x = own_chain e.kept.pieces in
      let segments : (upload_of v.pool e.kept).segments ≡ (content_of (upload_of v.pool e.kept) ++ []) ∷ [] =
      segments-own v.pool e.kept e.id x piece ∙ ap (λ (l : List ℕ). l ∷ []) (sym (content-own v.pool e.kept e.id x piece) ∙ sym (append-nil (content_of (upload_of v.pool e.kept)))) in
      plain_in-with_stored_tenant v v.pool t old changed is.part (λ k other there differs b some. refl)
      ∙ ap (set (plain_in (store_of v)) t) (ap (part_of v.pool) stored_tenant ∙ part-with_entry v.pool v.pool (stored_tenant_of old) i (with_head e declared expires) is.entry.within (λ b some. refl)
      ∙ ap (λ (l : List (List ℕ)). with_upload (part_of v.pool (stored_tenant_of old)) i (record { id = e.id; kept = record (upload_of v.pool e.kept) { segments = l; declared = declared; expires = expires } })) segments
      ∙ ap (λ (s : StoredTenant). with_upload (part_of v.pool s) i (record { id = e.id; kept = with_bytes (upload_of v.pool e.kept) [] declared expires })) (sym (stored_tenant_at-part v t old is.part)))

  -- the tenant pays as before
  pub charge-renewed : charge_with v.pool.block_size (part_at (store_of (with_stored_tenant v v.pool t changed)) t) ≡ charge_with v.pool.block_size (part_at (store_of v) t)
  charge-renewed =
      let w = with_stored_tenant v v.pool t changed in
      let part : IsPart w t changed = with_stored_tenant-part v v.pool t old changed is.part in
      charge_with-part w t changed IsKept-renewed part ∙ sym (charge-part w t changed IsKept-renewed part) ∙ is.charge ∙ charge-part v t old kept is.part ∙ sym (charge_with-part v t old kept is.part)
