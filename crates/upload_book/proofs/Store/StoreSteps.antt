-- What each call of the store keeps, does to what the plain book sees, and to what the tenant pays.
use Rattle.std.proofs.Common.{◌≡◌, ◌≢◌, ℕ, ◌+◌, [], ◌∷◌, ◌++◌, length, set, refl, sym, ap, ◌∙◌, subst, inl, inr}
use Rattle.std.specs.List.{All, Contains}
use Rattle.std.proofs.lemmas.List.Elements.{All-push}
use Rattle.block_bodies.specs.Bodies.{content_of}
use Rattle.upload_book.specs.Charge.{charge_with}
use Rattle.upload_book.specs.declared.head_row.Kind.TheVariants.{Final}
use Rattle.upload_book.specs.declared.stored_tenant.StoredTenant.{StoredTenant as KeptTenant}
use Rattle.upload_book.specs.declared.block_store.BlockStore.TheInside.{Inside}
use Rattle.upload_book.specs.inside.Kept.{stored_tenant_of, store_of, AreInOrder, HasUploadRoom, IsKept}
use Rattle.upload_book.specs.BlockStore.{plain_in, part_at}
use Rattle.upload_book.specs.declared.pieces.Piece.{Piece}
use Rattle.upload_book.specs.Stored.{StoredTenant, StoredUpload, part_of, pieces_of, upload_of, charge_on, HoldsPieces}
use Rattle.upload_book.specs.inside.Pieces.{own_chain, ReadsWhole, HasOwnPiece}
use Rattle.upload_book.specs.TenantBook.{Entry, with_new}
use Rattle.upload_book.proofs.Charge.InUse.{Contains-cases, Contains-none}
use Rattle.upload_book.proofs.Store.InOrder.{AreInOrder-push, HasNoLaterPiece-own}
use Rattle.upload_book.proofs.Store.JoinLemmas.{Contains-with_new, HoldsPieces-new, new-charge}
use Rattle.upload_book.proofs.Store.PlainStoredTenants.{part-with_new}
use Rattle.upload_book.proofs.Store.PutLemmas.{own_piece}
use Rattle.upload_book.proofs.Store.StoreLemmas.{with_stored_tenant, IsPart, IsStoredTenant-part, stored_tenant_at-part, own-part, order-part, reads-part, charge-part, charge_with-part, IsKept-with_stored_tenant, plain_in-with_stored_tenant, with_stored_tenant-part}

-- an upload that has no bytes
pub record IsEmpty (e : Entry StoredUpload) : Type 0 where
  pub own : e.kept.kind ≢ Final
  pub empty : (own_chain e.kept.pieces).blocks ≡ []
  pub none : (own_chain e.kept.pieces).len ≡ 0
  pub piece : HasOwnPiece e

-- a part with one more, which has the next id
pub record IsPushed (v : Inside) (t : ℕ) (old changed : KeptTenant) (e : Entry StoredUpload) : Type 0 where
  pub part : IsPart v t old
  pub id : e.id ≡ old.next
  pub new : IsEmpty e
  pub quota : changed.quota ≡ old.quota
  pub next : changed.next ≡ old.next + 1
  pub charge : changed.charge ≡ old.charge
  pub uploads : changed.uploads.items ≡ old.uploads.items ++ e ∷ []
  pub room : HasUploadRoom v.room changed

-- it is the stored part with a new upload
pushed-stored_tenant : (v : Inside) (t : ℕ) (old changed : KeptTenant) (e : Entry StoredUpload) → IsPushed v t old changed e → stored_tenant_of changed ≡ with_new (stored_tenant_of old) e.kept
pushed-stored_tenant v t old changed e is =
    let entry : e ≡ record { id = old.next; kept = e.kept } = ap (λ (id : ℕ). record e { id = id }) is.id in
    let uploads : changed.uploads.items ≡ old.uploads.items ++ record { id = old.next; kept = e.kept } ∷ [] =
    is.uploads ∙ ap (λ (e : Entry StoredUpload). old.uploads.items ++ e ∷ []) entry in
    rw (is.quota, is.next, uploads) refl

-- its piece is its own
pushed-piece : (v : Inside) (t : ℕ) (old changed : KeptTenant) (e : Entry StoredUpload) → IsPushed v t old changed e → e.kept.pieces ≡ own_piece (stored_tenant_of old).next (own_chain e.kept.pieces) ∷ []
pushed-piece v t old changed e is =
    is.new.piece is.new.own ∙ ap (λ (id : ℕ). own_piece id (own_chain e.kept.pieces) ∷ []) is.id

-- its pieces read whole
pushed-reads : (v : Inside) (t : ℕ) (old changed : KeptTenant) (e : Entry StoredUpload) → IsKept v → IsPushed v t old changed e → ReadsWhole v.pool (pieces_of (with_new (stored_tenant_of old) e.kept))
pushed-reads v t old changed e kept is x c =
    let own = pushed-piece v t old changed e is in
    elim (Contains-with_new (stored_tenant_of old) e.kept x c) [
      | inl before ↦ reads-part v t old kept is.part x before
      | inr here ↦ elim (Contains-cases (own_piece (stored_tenant_of old).next (own_chain e.kept.pieces)) x [] (subst (λ pieces. Contains pieces x) own here)) [
        | inl same ↦ subst (λ (x : Piece). length (content_of v.pool x.chain) ≡ x.chain.len) same (rw is.new.none refl)
        | inr nothing ↦ absurd (Contains-none x nothing)
      ]
    ]

-- the store is kept
pub IsKept-pushed : (v : Inside) (t : ℕ) (old changed : KeptTenant) (e : Entry StoredUpload) → IsKept v → IsPushed v t old changed e → IsKept (with_stored_tenant v v.pool t changed)
IsKept-pushed v t old changed e kept is =
    let stored_tenant = pushed-stored_tenant v t old changed e is in
    let part = IsStoredTenant-part v t old is.part in
    let own = pushed-piece v t old changed e is in
    let chain = own_chain e.kept.pieces in
    IsKept-with_stored_tenant v v.pool t old changed kept is.part (record { blocks = refl; bytes = refl })
    (subst (λ (s : StoredTenant). HoldsPieces v.pool (set (store_of v).stored_tenants t s)) (sym stored_tenant) (HoldsPieces-new v.pool (store_of v).stored_tenants t (stored_tenant_of old) e.kept chain kept.size kept.stored part own is.new.empty is.new.none))
    (λ k other there differs b some. refl)
    (subst (All HasOwnPiece) (sym is.uploads) (All-push HasOwnPiece old.uploads.items e (own-part v t old kept is.part) is.new.piece))
    (subst (λ (s : StoredTenant). ReadsWhole v.pool (pieces_of s)) (sym stored_tenant) (pushed-reads v t old changed e kept is))
    (subst AreInOrder (sym stored_tenant) (AreInOrder-push (stored_tenant_of old) e.kept (HasNoLaterPiece-own (record { id = old.next; kept = e.kept }) (own_piece old.next chain) own refl) (order-part v t old kept is.part)))
    (is.charge ∙ charge-part v t old kept is.part
    ∙ sym (new-charge v.pool (store_of v).stored_tenants t (stored_tenant_of old) e.kept chain kept.size kept.stored part own is.new.empty is.new.none)
    ∙ ap (charge_on v.pool.block_size) (sym stored_tenant))
    is.room

-- the plain book gets the upload
pub plain-pushed : (v : Inside) (t : ℕ) (old changed : KeptTenant) (e : Entry StoredUpload) → IsKept v → IsPushed v t old changed e
    → plain_in (store_of (with_stored_tenant v v.pool t changed)) ≡ set (plain_in (store_of v)) t (with_new (part_at (store_of v) t) (upload_of v.pool e.kept))
plain-pushed v t old changed e kept is =
    plain_in-with_stored_tenant v v.pool t old changed is.part (λ k other there differs b some. refl)
    ∙ ap (set (plain_in (store_of v)) t) (ap (part_of v.pool) (pushed-stored_tenant v t old changed e is) ∙ part-with_new v.pool v.pool (stored_tenant_of old) e.kept (λ b some. refl)
    ∙ ap (λ (s : StoredTenant). with_new (part_of v.pool s) (upload_of v.pool e.kept)) (sym (stored_tenant_at-part v t old is.part)))

-- the tenant pays as much as before
pub charge-pushed : (v : Inside) (t : ℕ) (old changed : KeptTenant) (e : Entry StoredUpload) → IsKept v → IsPushed v t old changed e
    → charge_with v.pool.block_size (part_at (store_of (with_stored_tenant v v.pool t changed)) t) ≡ charge_with v.pool.block_size (part_at (store_of v) t)
charge-pushed v t old changed e kept is =
    let part : IsPart (with_stored_tenant v v.pool t changed) t changed = with_stored_tenant-part v v.pool t old changed is.part in
    charge_with-part (with_stored_tenant v v.pool t changed) t changed (IsKept-pushed v t old changed e kept is) part
    ∙ sym (charge-part (with_stored_tenant v v.pool t changed) t changed (IsKept-pushed v t old changed e kept is) part)
    ∙ is.charge ∙ charge-part v t old kept is.part ∙ sym (charge_with-part v t old kept is.part)
