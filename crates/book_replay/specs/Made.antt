-- Whether a book may be asked for a change, as a test.
use Rattle.std.specs.Prelude.{ℕ, Bool, true, false, ◌&&◌, List, [], length, nat_le, nat_lt, ◌==◌, Option, Some, None, is_some, bytes_eq, codes}
use Rattle.std.specs.List.{list_all}
use Rattle.tus_text.specs.Concat.{concat_of}
use Rattle.tus_text.specs.declared.concat.Concat.{Concat}
use Rattle.tus_text.specs.declared.concat.Concat.TheVariants as concat
use Rattle.upload_book.specs.Create.{new_kind}
use Rattle.upload_book.specs.declared.change.Change.{Change}
use Rattle.upload_book.specs.declared.change.Change.TheVariants as change
use Rattle.upload_book.specs.declared.head_row.Kind.{Kind}
use Rattle.upload_book.specs.declared.head_row.Kind.TheVariants.{Plain, Partial, Final}
use Rattle.upload_book.specs.declared.restored.Restored.{Restored}
use Rattle.upload_book.specs.declared.restored.Restored.TheVariants as piece
use Rattle.upload_book.specs.Lawful.{is_kept_metadata}
use Rattle.upload_book.specs.NewFinal.{NewFinal}
use Rattle.upload_book.specs.NewUpload.{NewUpload}
use Rattle.upload_book.specs.snapshot.Restored.{RestoredSegment, RestoredUpload}

-- what was read names the parts of a final upload
abbrev pub names_parts : Option Concat → Bool
names_parts (Some (concat.Final parts)) = true
names_parts (Some concat.Partial) = false
names_parts None = false

-- a concat text that is kept for an upload of a kind: none for one of its own, `partial` for a part, and one that names
-- its parts for a final upload
abbrev pub is_concat_text : Kind → List ℕ → Bool
is_concat_text Plain text = bytes_eq text []
is_concat_text Partial text = bytes_eq text (codes "partial")
is_concat_text Final text = names_parts (concat_of text)

-- the texts of a creation are accepted ones
abbrev pub is_upload : NewUpload → Bool
is_upload new = is_kept_metadata new.metadata && is_concat_text (new_kind new.partial) new.concat

-- a concatenation is of 1 to 32 parts, with accepted texts
abbrev pub is_final : NewFinal → Bool
is_final new = nat_lt 0 (length new.parts) && nat_le (length new.parts) 32 && is_kept_metadata new.metadata && is_concat_text Final new.concat

-- a segment that an upload of its own brings
abbrev pub is_own : ℕ → RestoredSegment → Bool
is_own id s = s.origin == id && is_some s.bytes

-- a segment of an earlier part
abbrev pub is_earlier : ℕ → RestoredSegment → Bool
is_earlier id s = nat_lt 0 s.origin && nat_lt s.origin id

-- an upload that is put back has the segments of its kind: one of its own brings one, and a final one has 1 to 32, of
-- earlier parts
abbrev pub has_segments : Kind → ℕ → List RestoredSegment → Bool
has_segments Plain id segments = length segments == 1 && list_all (is_own id) segments
has_segments Partial id segments = length segments == 1 && list_all (is_own id) segments
has_segments Final id segments = nat_lt 0 (length segments) && nat_le (length segments) 32 && list_all (is_earlier id) segments

-- and accepted texts
abbrev pub is_restorable : RestoredUpload → Bool
is_restorable r = has_segments r.kind r.id r.segments && is_kept_metadata r.metadata && is_concat_text r.kind r.concat

-- a piece that is put back is of one of so many tenants, where it is of one, and of its form
abbrev pub can_be_put_back : ℕ → Restored → Bool
can_be_put_back tenants (piece.Upload tenant r) = nat_lt tenant tenants && is_restorable r
can_be_put_back tenants (piece.Next tenant next) = nat_lt tenant tenants
can_be_put_back tenants (piece.Totals released) = true

-- a creation and a concatenation are of one of so many tenants, and such ones
abbrev pub can_be_made : ℕ → Change → Bool
can_be_made tenants (change.Create tenant new first) = nat_lt tenant tenants && is_upload new
can_be_made tenants (change.Append name chunk) = true
can_be_made tenants (change.Concat tenant new) = nat_lt tenant tenants && is_final new
can_be_made tenants (change.Terminate name) = true
can_be_made tenants change.Sweep = true
can_be_made tenants (change.Restore restored) = can_be_put_back tenants restored
