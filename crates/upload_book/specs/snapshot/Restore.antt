-- How a book is put back from a snapshot of it, piece by piece: what a piece is, when it is accepted, and the book after it.
use Rattle.std.specs.Prelude.{◌≡◌, ℕ, ◌+◌, ◌-◌, ◌<◌, ◌≤◌, Bool, true, not, ◌&&◌, ◌||◌, List, [], ◌∷◌, ◌++◌, flat_map, length, map, zip, nat_lt, nat_le, ◌==◌, Option, Some, None, option_and_then, option_map, unwrap_or, IsTrue, All, if◌then◌else◌, ⊤}
use Rattle.std.specs.List.{list_all}
use Rattle.std.specs.Option.{option_map_or}
use Rattle.upload_book.specs.Append.{is_final, is_too_long}
use Rattle.upload_book.specs.Charge.{charge_in, origins}
use Rattle.upload_book.specs.Concat.{is_partial}
use Rattle.upload_book.specs.declared.head_row.Kind.{Kind}
use Rattle.upload_book.specs.declared.head_row.Kind.TheVariants.{Plain, Partial, Final}
use Rattle.upload_book.specs.declared.refusal.Refusal.{Refusal}
use Rattle.upload_book.specs.declared.refusal.Refusal.TheVariants.{Field, TooLong, Part, PartOpen, Uploads, Spent, Quota}
use Rattle.upload_book.specs.declared.settings.Numbers.{Numbers}
use Rattle.upload_book.specs.Expiry.{may_end}
use Rattle.upload_book.specs.Lawful.{IsConcatText, is_kept_metadata}
use Rattle.upload_book.specs.PlainBook.{PlainBook, tenant_book, with_tenant_book}
use Rattle.upload_book.specs.Refusal.{first_that_holds}
use Rattle.upload_book.specs.declared.restored.Restored.TheVariants as piece
use Rattle.upload_book.specs.declared.restored.Restored.{Restored}
use Rattle.upload_book.specs.snapshot.Restored.{RestoredSegment, RestoredUpload}
use Rattle.upload_book.specs.Stored.{parts_of}
use Rattle.upload_book.specs.TenantBook.{Entry, TenantBook, kept_in, with_new, with_next}
use Rattle.upload_book.specs.Upload.{Upload, is_complete, offset_of}

-- the segments of an upload that is put back: one of its own brings its bytes, and a final one is of 1 to 32 parts, which are
-- earlier
abbrev pub HasSegments : Kind → ℕ → List RestoredSegment → Type 0
HasSegments Plain id segments = (bytes : List ℕ) × (segments ≡ record { origin = id; bytes = Some bytes } ∷ [])
HasSegments Partial id segments = (bytes : List ℕ) × (segments ≡ record { origin = id; bytes = Some bytes } ∷ [])
HasSegments Final id segments =
    (0 < length segments) × (length segments ≤ 32) × All (λ (s : RestoredSegment). (0 < s.origin) × (s.origin < id)) segments

-- an upload that is put back has the segments of its kind, and texts of their forms
pub record IsRestorable (r : RestoredUpload) : Type 0 where
  pub segments : HasSegments r.kind r.id r.segments
  pub metadata : IsTrue (is_kept_metadata r.metadata)
  pub concat : IsConcatText r.kind r.concat

-- the book of so many tenants may be asked to put it back
abbrev pub CanBePutBack : ℕ → Restored → Type 0
CanBePutBack tenants (piece.Upload tenant r) = (tenant < tenants) × IsRestorable r
CanBePutBack tenants (piece.Next tenant next) = tenant < tenants
CanBePutBack tenants (piece.Totals released) = ⊤

-- the segments of an upload, each with its origin
abbrev pub sent_of : Entry Upload → List (ℕ × List ℕ)
sent_of e = zip (origins e.kept.kind e.id e.kept.parts) e.kept.segments

-- those of all uploads of a tenant
abbrev pub sent_in : List (Entry Upload) → List (ℕ × List ℕ)
sent_in entries = flat_map sent_of entries

-- the bytes of the first segment of an origin, where one stands
abbrev pub bytes_from : List (ℕ × List ℕ) → ℕ → Option (List ℕ)
bytes_from [] origin = None
bytes_from (s ∷ standing) origin = if s.0 == origin then Some s.1 else bytes_from standing origin

-- The bytes of a segment that is put back, of which these stand: it brings them where none do, and else brings none. So no
-- byte stands twice.
abbrev pub bytes_back : Option (List ℕ) → Option (List ℕ) → Option (List ℕ)
bytes_back None brought = brought
bytes_back (Some bytes) None = Some bytes
bytes_back (Some bytes) (Some again) = None

-- segments that are put back behind those that stand, one after another, each with its bytes; none where one lacks them
-- or brings them again
abbrev pub sent_back : List (ℕ × List ℕ) → List RestoredSegment → Option (List (ℕ × List ℕ))
sent_back standing [] = Some []
sent_back standing (s ∷ segments) =
    option_and_then
    (λ bytes. option_map (λ others. (s.origin, bytes) ∷ others) (sent_back (standing ++ (s.origin, bytes) ∷ []) segments))
    (bytes_back (bytes_from standing s.origin) s.bytes)

-- the upload that is put back with these segments
abbrev pub upload_back : RestoredUpload → List (ℕ × List ℕ) → Upload
upload_back r sent = record {
  kind = r.kind;
  parts = parts_of r.kind (map {A = ℕ × List ℕ} {B = ℕ} (λ s. s.0) sent);
  declared = r.declared;
  segments = map {A = ℕ × List ℕ} {B = List ℕ} (λ s. s.1) sent;
  metadata = r.metadata;
  concat = r.concat;
  expires = r.expires;
}

-- a part with an upload put back under an id, which was not given before
abbrev pub with_back : TenantBook → ℕ → Upload → TenantBook
with_back part id u = with_new (with_next part id) u

-- whether an upload may have its end, and is complete where it is a final one
abbrev pub ends_rightly : Numbers → Kind → Bool → Option ℕ → Bool
ends_rightly n kind complete expires = may_end n kind complete expires && (complete || not (is_final kind))

-- what stands under the id of a part of a final upload, if anything does, is a partial upload with all of its bytes
abbrev pub may_be_part : TenantBook → ℕ → Bool
may_be_part part id = option_map_or (λ (u : Upload). is_partial u.kind && is_complete u) (kept_in part.uploads id) true

-- The tests of an upload that is put back under an id, where so many blocks were charged so far: it is as its kind asks,
-- and its tenant may have it and pays for it.
abbrev pub restore_tests : Numbers → ℕ → TenantBook → ℕ → Upload → List (Bool × Refusal)
restore_tests n charged part id u =
    let after = charge_in n (with_back part id u) in
    (not (ends_rightly n u.kind (is_complete u) u.expires), Field)
    ∷ (is_too_long n (unwrap_or u.declared n.max_size) (offset_of u), TooLong)
    ∷ (not (list_all (may_be_part part) u.parts), PartOpen)
    ∷ (nat_le n.uploads (length part.uploads), Uploads)
    ∷ (nat_lt n.last_id id || nat_lt n.last_total (charged + (after - charge_in n part)), Spent)
    ∷ (nat_lt part.quota after, Quota)
    ∷ []

-- why an upload is not put back with these segments, if it is not; where a segment lacks its bytes or brings them again, a
-- part is not what it should be
abbrev pub refusal_with : Numbers → ℕ → TenantBook → RestoredUpload → Option (List (ℕ × List ℕ)) → Option Refusal
refusal_with n charged part r None = Some Part
refusal_with n charged part r (Some sent) = first_that_holds (restore_tests n charged part r.id (upload_back r sent))

-- why an upload is not put back, if it is not; it has to get the tenant's next id
abbrev pub restore_refusal : Numbers → ℕ → TenantBook → RestoredUpload → Option Refusal
restore_refusal n charged part r =
    if not (r.id == part.next) then Some Field else refusal_with n charged part r (sent_back (sent_in part.uploads) r.segments)

-- the part with the upload of these segments put back
abbrev pub part_with : TenantBook → RestoredUpload → Option (List (ℕ × List ℕ)) → TenantBook
part_with part r None = part
part_with part r (Some sent) = with_back part r.id (upload_back r sent)

-- the tests of a tenant's next id: no id is given again, and there are so many
abbrev pub next_tests : Numbers → TenantBook → ℕ → List (Bool × Refusal)
next_tests n part next = (nat_lt next part.next, Field) ∷ (nat_lt (n.last_id + 1) next, Spent) ∷ []

-- how many blocks were charged in all, where so many of them were released: the others are those that the tenants pay
abbrev pub charged_with : PlainBook → ℕ → ℕ
charged_with b released = released + (b.charged - b.released)

-- the tests of the totals: what was released does not fall, and so many may be charged
abbrev pub totals_tests : PlainBook → ℕ → List (Bool × Refusal)
totals_tests b released =
    (nat_lt released b.released, Field) ∷ (nat_lt b.settings.numbers.last_total (charged_with b released), Spent) ∷ []

-- it may lack memory where it is an upload that is not refused
abbrev pub MayLackPiece : PlainBook → Restored → Type 0
MayLackPiece b (piece.Upload tenant r) = restore_refusal b.settings.numbers b.charged (tenant_book b tenant) r ≡ None
MayLackPiece b (piece.Next tenant next) = ⊥
MayLackPiece b (piece.Totals released) = ⊥

-- why a piece is not put back, if it is not
abbrev pub piece_refusal : PlainBook → Restored → Option Refusal
piece_refusal b (piece.Upload tenant r) = restore_refusal b.settings.numbers b.charged (tenant_book b tenant) r
piece_refusal b (piece.Next tenant next) = first_that_holds (next_tests b.settings.numbers (tenant_book b tenant) next)
piece_refusal b (piece.Totals released) = first_that_holds (totals_tests b released)

-- the book with a piece put back that is not refused
abbrev pub book_with : PlainBook → Restored → PlainBook
book_with b (piece.Upload tenant r) =
    let part = tenant_book b tenant in
    with_tenant_book b tenant (part_with part r (sent_back (sent_in part.uploads) r.segments))
book_with b (piece.Next tenant next) = with_tenant_book b tenant (with_next (tenant_book b tenant) next)
book_with b (piece.Totals released) = record b { charged = charged_with b released; released = released }

-- the book after a piece; one that is refused leaves it as it was
abbrev pub book_after_piece : PlainBook → Restored → PlainBook
book_after_piece b restored = book_unless (piece_refusal b restored) where
  book_unless : Option Refusal → PlainBook
  book_unless None = book_with b restored
  book_unless (Some refusal) = b
