-- What stands at a place of a tenant's part in a store, and the part with another upload there.
use Rattle.std.specs.Prelude.{◌≡◌, ◌≢◌, ℕ, ◌+◌, ◌<◌, ◌≤◌, ◌^◌, List, [], ◌∷◌, ◌++◌, map, length, set, vec_capacity, Option, Some, All, Ok}
use Rattle.std.specs.List.{remove, sum_by}
use Rattle.std.specs.List.Sorted.{IsStrictlyIncreasing}
use Rattle.block_bodies.specs.Bodies.{Chain}
use Rattle.block_pool.specs.Blocks.{size_of}
use Rattle.upload_book.specs.Charge.{charge_with}
use Rattle.upload_book.specs.declared.ready.ReadyBack.{ReadyBack}
use Rattle.upload_book.specs.inside.FinalBack.{AreRoomsFor, brought_in, sent_len}
use Rattle.upload_book.specs.inside.Texts.{IsTextsFor}
use Rattle.upload_book.specs.snapshot.Restore.{IsRestorable, sent_back, sent_in}
use Rattle.upload_book.specs.snapshot.Restored.{RestoredSegment}
use Rattle.upload_book.specs.declared.head_row.Kind.TheVariants.{Final}
use Rattle.upload_book.specs.Stored.{StoredUpload, part_kept, pieces_of}
use Rattle.upload_book.specs.TenantBook.{TenantPart, Entry, visible_upload}
use Rattle.upload_book.specs.Upload.{Upload, content_of}
use Rattle.upload_book.specs.BlockStore.{BlockStore, plain_in, stored_tenant_at, part_at, entry_at, upload_at}

-- the upload with the id stands at this place of its tenant's part
pub record IsPlaceOf (s : BlockStore) (tenant id place : ℕ) : Type 0 where
  pub there : place < length (stored_tenant_at s tenant).uploads
  pub named : (entry_at s tenant place).id ≡ id

-- a request for the id sees, at this moment, the upload at this place
pub record IsVisibleIn (s : BlockStore) (tenant id now place : ℕ) : Type 0 where
  pub there : place < length (stored_tenant_at s tenant).uploads
  pub named : (entry_at s tenant place).id ≡ id
  pub visible : visible_upload (part_at s tenant) id now ≡ Ok (upload_at s tenant place)

-- a part of a concatenation that is named so is, at this moment, the partial upload at this place
pub record IsPartIn (s : BlockStore) (tenant : ℕ) (named : Option ℕ) (now place : ℕ) : Type 0 where
  pub there : place < length (stored_tenant_at s tenant).uploads
  pub seen : part_kept (stored_tenant_at s tenant) now named ≡ Some (entry_at s tenant place)

-- there are few enough uploads of a tenant, and of their segments, for every block to be held once more by each
pub record AreFew (s : BlockStore) (tenant : ℕ) : Type 0 where
  pub uploads : length (part_at s tenant).uploads ≤ 65536
  pub segments : All (λ e. length e.kept.segments ≤ 32) (part_at s tenant).uploads

-- the upload with bytes at its end, this length and this end
abbrev pub with_bytes : Upload → List ℕ → Option ℕ → Option ℕ → Upload
with_bytes u bytes declared expires = record u {
  declared = declared;
  segments = (content_of u ++ bytes) ∷ [];
  expires = expires;
}

-- No other upload has the bytes of the upload at a place: it is not a final one, it alone has its id, and no
-- final one has it as a part. So nobody else sees what is written after its bytes.
pub record IsAlone (s : BlockStore) (tenant place : ℕ) : Type 0 where
  pub own : (entry_at s tenant place).kept.kind ≢ Final
  pub ids : IsStrictlyIncreasing (map {A = Entry Upload} {B = ℕ} (λ e. e.id) (part_at s tenant).uploads)
  pub parts : All (λ e. e.kept.kind ≡ Final → All (λ o. o ≢ (entry_at s tenant place).id) e.kept.parts) (part_at s tenant).uploads

-- the upload with another list of its blocks
abbrev pub with_chain : Entry StoredUpload → Chain → Entry StoredUpload
with_chain e chain = record e { kept = record e.kept { pieces = record { origin = e.id; chain = chain } ∷ [] } }

-- the upload with this length and this end
abbrev pub with_head : Entry StoredUpload → Option ℕ → Option ℕ → Entry StoredUpload
with_head e declared expires = record e { kept = record e.kept { declared = declared; expires = expires } }

-- a part with another entry at a place
abbrev pub with_upload : {K : Type 0} → TenantPart K → ℕ → Entry K → TenantPart K
with_upload part place e = record part { uploads = set part.uploads place e }

-- a part without the entry at a place
abbrev pub without_upload : {K : Type 0} → TenantPart K → ℕ → TenantPart K
without_upload part place = record part { uploads = remove part.uploads place }

-- A store may keep a final upload that is put back as a tenant's next one: its segments are had, there is room for it and for
-- the blocks of what it brings, and it is of its form.
pub record MayKeep (s : BlockStore) (t : ℕ) (r : ReadyBack) : Type 0 where
  pub tenant : t < length s.stored_tenants
  pub room : length (stored_tenant_at s t).uploads < s.room
  pub next : (stored_tenant_at s t).next + 1 < 2 ^ 64
  pub few : AreFew s t
  pub form : IsRestorable r.upload
  pub final : r.upload.kind ≡ Final
  pub given : All (λ (x : RestoredSegment). x.origin < (stored_tenant_at s t).next) r.upload.segments
  pub segments : length r.upload.segments ≤ 32
  pub sent : List (ℕ × List ℕ)
  pub had : sent_back (sent_in (part_at s t).uploads) r.upload.segments ≡ Some sent
  pub whole : r.upload.declared ≡ Some (sent_len sent)
  pub fits : sum_by (charge_with s.pool.block_size) (plain_in s) + brought_in s.pool.block_size r.upload.segments ≤ size_of s.pool
  pub rooms : AreRoomsFor s.pool.block_size (pieces_of (stored_tenant_at s t)) r.upload.segments r.bodies.items
  pub empty : r.pieces.items ≡ []
  pub listed : length r.upload.segments ≤ vec_capacity r.pieces
  pub texts : IsTextsFor s.room r.texts r.upload.metadata r.upload.concat
