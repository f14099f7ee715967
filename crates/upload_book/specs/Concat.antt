-- The step of a concatenation, which joins partial uploads to a final one (tus 1.0.0, Concatenation).
use Rattle.std.specs.Prelude.{ℕ, Bool, true, false, not, ◌&&◌, List, [], ◌∷◌, length, map, nat_lt, nat_le, ◌==◌, Option, Some, None, option_and_then, Result, Ok, Err, if◌then◌else◌}
use Rattle.std.specs.List.{filter_map, list_all, sum_by}
use Rattle.upload_book.specs.declared.create.Created.{Created}
use Rattle.upload_book.specs.declared.head_row.HeadRow.{HeadRow}
use Rattle.upload_book.specs.declared.head_row.Kind.{Kind}
use Rattle.upload_book.specs.declared.head_row.Kind.TheVariants.{Plain, Partial, Final}
use Rattle.upload_book.specs.declared.refusal.Refusal.{Refusal}
use Rattle.upload_book.specs.declared.refusal.Refusal.TheVariants.{TooLong, Part, PartOpen, Uploads, Spent}
use Rattle.upload_book.specs.declared.settings.Numbers.{Numbers}
use Rattle.upload_book.specs.Expiry.{finished_end}
use Rattle.upload_book.specs.NewFinal.{NewFinal}
use Rattle.upload_book.specs.Refusal.{first_that_holds, unless}
use Rattle.upload_book.specs.TenantBook.{TenantBook, TenantPart, Entry, visible_in, with_new}
use Rattle.upload_book.specs.Upload.{Upload, content_of, head_row_of, is_reached}

-- the kind is that of a partial upload
abbrev pub is_partial : Kind → Bool
is_partial Plain = false
is_partial Partial = true
is_partial Final = false

module _ {K : Type 0} where
  -- what is seen under an id, where it is a partial upload's
  abbrev pub partial_seen : (K → Kind) → ℕ → Result K Refusal → Option (Entry K)
  partial_seen kind id (Ok kept) = if is_partial (kind kept) then Some (record { id = id; kept = kept }) else None
  partial_seen kind id (Err refusal) = None

  -- what stands for a part that is named by its id, where that is a visible partial upload; a part that is named
  -- by none is another tenant's, and nothing stands for it
  abbrev pub part_named : (K → Kind) → (K → Option ℕ) → TenantPart K → ℕ → Option ℕ → Option (Entry K)
  part_named kind expires part now named =
      option_and_then (λ id. partial_seen kind id (visible_in expires part id now)) named

  -- what stands for the parts that are named, in their order, and as often as they are named
  abbrev pub parts_named : (K → Kind) → (K → Option ℕ) → TenantPart K → ℕ → List (Option ℕ) → List (Entry K)
  parts_named kind expires part now named = filter_map (part_named kind expires part now) named

-- the visible partial uploads that are named
abbrev pub parts_found : TenantBook → ℕ → List (Option ℕ) → List (Entry Upload)
parts_found part now named = parts_named (λ u. u.kind) (λ u. u.expires) part now named

-- what a HEAD tells of each
abbrev pub rows_of : List (Entry Upload) → List HeadRow
rows_of found = map {A = Entry Upload} {B = HeadRow} (λ e. head_row_of e.kept) found

-- uploads of these rows have all of their bytes
abbrev pub are_complete : List HeadRow → Bool
are_complete rows = list_all (λ row. is_reached row.declared row.offset) rows

-- how many bytes they have together
abbrev pub joined_len : List HeadRow → ℕ
joined_len rows = sum_by (λ row. row.offset) rows

-- each part was found
abbrev pub are_there : List (Option ℕ) → List HeadRow → Bool
are_there named rows = length rows == length named

-- the tests of a concatenation, in their order: whether each part is there, whether those that are have all of
-- their bytes, and how many bytes these have together
abbrev pub concat_tests : Numbers → TenantBook → Bool → Bool → ℕ → List (Bool × Refusal)
concat_tests n part there complete len =
    (there && complete && nat_lt n.max_size len, TooLong)
    ∷ (not there, Part)
    ∷ (not complete, PartOpen)
    ∷ (nat_le n.uploads (length part.uploads), Uploads)
    ∷ (nat_lt n.last_id part.next, Spent)
    ∷ []

-- why a concatenation is refused, if it is
abbrev pub concat_refusal : Numbers → TenantBook → NewFinal → ℕ → Option Refusal
concat_refusal n part new now =
    let rows = rows_of (parts_found part now new.parts) in
    first_that_holds (concat_tests n part (are_there new.parts rows) (are_complete rows) (joined_len rows))

-- the final upload of these parts, which expires then, if it does: their contents in this order. It is complete.
abbrev pub final_upload : List (Entry Upload) → NewFinal → Option ℕ → Upload
final_upload found new expires = record {
  kind = Final;
  parts = map {A = Entry Upload} {B = ℕ} (λ e. e.id) found;
  declared = Some (joined_len (rows_of found));
  segments = map {A = Entry Upload} {B = List ℕ} (λ e. content_of e.kept) found;
  metadata = new.metadata;
  concat = new.concat;
  expires = expires;
}

-- the final upload that is joined now: it is finished
abbrev pub joined_upload : Numbers → TenantBook → NewFinal → ℕ → Upload
joined_upload n part new now = final_upload (parts_found part now new.parts) new (finished_end n now)

-- the answer to a concatenation for the tenant at a place, whose part this is
abbrev pub concat_answer : ℕ → NewFinal → ℕ → Numbers → TenantBook → Result Created Refusal
concat_answer tenant new now n part =
    unless (concat_refusal n part new now) (record { name = record { tenant = tenant; id = part.next }; expires = finished_end n now })

-- the part after it
abbrev pub part_after_concat : NewFinal → ℕ → Numbers → TenantBook → TenantBook
part_after_concat new now n part = part_unless (concat_refusal n part new now) where
  part_unless : Option Refusal → TenantBook
  part_unless None = with_new part (joined_upload n part new now)
  part_unless (Some refusal) = part
