-- Where the texts of an upload lie.
use Rattle.std.specs.Prelude.{◌≡◌, ◌<◌, ◌≤◌, ℕ, Bool, true, false, List, nat_le, Option, None, Some}
use Rattle.std.specs.Arc.{arc_value}
use Rattle.upload_book.specs.declared.texts.SharedTexts.{SharedTexts}
use Rattle.upload_book.specs.declared.texts.UploadTexts.{UploadTexts}
use Rattle.upload_book.specs.declared.texts.UploadTexts.TheVariants.{Boxed, Shared}

-- texts in memory as long as they are
abbrev pub shared_metadata : SharedTexts → List ℕ
shared_metadata t = (arc_value t.texts).metadata.items

abbrev pub shared_concat : SharedTexts → List ℕ
shared_concat t = (arc_value t.texts).concat.items

-- the texts, wherever they lie
abbrev pub metadata_in : UploadTexts → List ℕ
metadata_in (Boxed t) = t.place.value.metadata
metadata_in (Shared t) = shared_metadata t

abbrev pub concat_in : UploadTexts → List ℕ
concat_in (Boxed t) = t.place.value.concat
concat_in (Shared t) = shared_concat t

-- they lie in a box that was there from the start
abbrev pub is_boxed : UploadTexts → Bool
is_boxed (Boxed t) = true
is_boxed (Shared t) = false

-- as many boxes are used for them
abbrev pub boxes_in : Bool → ℕ
boxes_in true = 1
boxes_in false = 0

-- where a tenant may have so many uploads, there is a box for each of them from the start
abbrev pub is_reserved : ℕ → Bool
is_reserved uploads = nat_le uploads 64

-- Memory was taken for the texts of a new upload, where a tenant may have so many that there are no boxes for them.
abbrev pub IsTextsFor : ℕ → Option SharedTexts → List ℕ → List ℕ → Type 0
IsTextsFor uploads None metadata concat = uploads ≤ 64
IsTextsFor uploads (Some t) metadata concat = (64 < uploads) × (shared_metadata t ≡ metadata) × (shared_concat t ≡ concat)
