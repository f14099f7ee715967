-- What a request sees of what is kept.
use Rattle.std.proofs.Common.{◌≡◌, ℕ, Bool, true, false, cond, eqb, List, [], ◌∷◌, map, Option, None, Some, Result, Ok, Err, refl, ap, ◌∙◌, subst}
use Rattle.std.specs.Option.{option_map}
use Rattle.block_pool.specs.Blocks.{Blocks}
use Rattle.upload_book.specs.declared.refusal.Refusal.{Refusal}
use Rattle.upload_book.specs.declared.refusal.Refusal.TheVariants.{Unknown, Gone}
use Rattle.upload_book.specs.declared.stored_tenant.StoredTenant.{StoredTenant as KeptTenant}
use Rattle.upload_book.specs.declared.block_store.BlockStore.TheInside.{Inside}
use Rattle.upload_book.specs.Expiry.{has_expired}
use Rattle.upload_book.specs.inside.Kept.{stored_tenant_of, store_of, IsVisibleAt}
use Rattle.upload_book.specs.BlockStore.{BlockStore, part_at, stored_tenant_at, no_upload}
use Rattle.upload_book.specs.inside.Places.{IsVisibleIn}
use Rattle.upload_book.specs.Stored.{StoredTenant, StoredUpload, entry_of, part_of, upload_of}
use Rattle.upload_book.specs.TenantBook.{Entry, kept_in, is_given, visible, visible_in, visible_upload}
use Rattle.upload_book.specs.Upload.{Upload}
use Rattle.upload_book.proofs.Store.StoreLemmas.{IsPart, stored_tenant_at-part}

-- what was seen, as the plain book has it
abbrev pub plain_seen : Blocks → Result StoredUpload Refusal → Result Upload Refusal
plain_seen p (Ok u) = Ok (upload_of p u)
plain_seen p (Err refusal) = Err refusal

-- what is kept under an id
kept-first : (p : Blocks) (same : Bool) (u : StoredUpload) (rest : Option Upload) (kept : Option StoredUpload) → rest ≡ option_map (upload_of p) kept → cond same (Some (upload_of p u)) rest ≡ option_map (upload_of p) (cond same (Some u) kept)
kept-first p true u rest kept is = refl
kept-first p false u rest kept is = is

pub kept_in-plain : (p : Blocks) (entries : List (Entry StoredUpload)) (id : ℕ) → kept_in (map {A = Entry StoredUpload} {B = Entry Upload} (entry_of p) entries) id ≡ option_map (upload_of p) (kept_in entries id)
kept_in-plain p [] id = refl
kept_in-plain p (e ∷ entries) id = kept-first p (eqb e.id id) e.kept _ (kept_in entries id) (kept_in-plain p entries id)

-- unless it has expired
over-plain : (p : Blocks) (over : Bool) (u : StoredUpload) → cond over (Err Gone) (Ok (upload_of p u)) ≡ plain_seen p (cond over (Err Gone) (Ok u))
over-plain p true u = refl
over-plain p false u = refl

visible-mapped : (p : Blocks) (now : ℕ) (found : Option StoredUpload) → visible (λ (u : Upload). u.expires) now (option_map (upload_of p) found) ≡ plain_seen p (visible (λ (u : StoredUpload). u.expires) now found)
visible-mapped p now None = refl
visible-mapped p now (Some u) = over-plain p (has_expired now u.expires) u

given-plain : (p : Blocks) (given : Bool) (a : Result Upload Refusal) (b : Result StoredUpload Refusal) → a ≡ plain_seen p b → cond given a (Err Unknown) ≡ plain_seen p (cond given b (Err Unknown))
given-plain p true a b same = same
given-plain p false a b same = refl

-- a request sees the same of the plain book
pub visible-plain : (p : Blocks) (stored_tenant : StoredTenant) (id now : ℕ) → visible_upload (part_of p stored_tenant) id now ≡ plain_seen p (visible_in (λ (u : StoredUpload). u.expires) stored_tenant id now)
visible-plain p stored_tenant id now =
    given-plain p (is_given stored_tenant id) _ _ (ap (visible (λ (u : Upload). u.expires) now) (kept_in-plain p stored_tenant.uploads id) ∙ visible-mapped p now (kept_in stored_tenant.uploads id))

-- the upload at a place that a request sees,
pub IsVisibleIn-read : (v : Inside) (s : BlockStore) (t id now i : ℕ) (old : KeptTenant) → store_of v ≡ s → IsPart v t old → IsVisibleAt (stored_tenant_of old) id now i → IsVisibleIn s t id now i
IsVisibleIn-read v s t id now i old is part seen = subst (λ (s : BlockStore). IsVisibleIn s t id now i) is (by (stored_tenant_at-part v t old part))
  where
    by : stored_tenant_at (store_of v) t ≡ stored_tenant_of old → IsVisibleIn (store_of v) t id now i
    by same = record {
      there = rw same seen.there;
      named = rw same (seen.named no_upload);
      visible = rw same (visible-plain v.pool (stored_tenant_of old) id now ∙ ap (plain_seen v.pool) (seen.visible no_upload));
    }

-- and why it sees none
pub refused-read : (v : Inside) (s : BlockStore) (t id now : ℕ) (old : KeptTenant) (why : Refusal) → store_of v ≡ s → IsPart v t old → visible_in (λ (u : StoredUpload). u.expires) (stored_tenant_of old) id now ≡ Err why
    → visible_upload (part_at s t) id now ≡ Err why
refused-read v s t id now old why is part seen =
    subst (λ (s : BlockStore). visible_upload (part_at s t) id now ≡ Err why) is (ap (λ (stored_tenant : StoredTenant). visible_upload (part_of v.pool stored_tenant) id now) (stored_tenant_at-part v t old part) ∙ visible-plain v.pool (stored_tenant_of old) id now ∙ ap (plain_seen v.pool) seen)
