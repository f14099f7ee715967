-- An upload as the plain book has it (tus 1.0.0, Core Protocol, Creation, Expiration and
-- Concatenation).
use Rattle.std.specs.Prelude.{◌≡◌, ℕ, Bool, false, List, length, flat_map, ◌==◌, Option, Some}
use Rattle.std.specs.Option.{option_map_or}
use Rattle.upload_book.specs.declared.head_row.Kind.{Kind}
use Rattle.upload_book.specs.declared.head_row.HeadRow.{HeadRow}

-- what it is for, for a final one the ids of its parts, its length where that is known, its bytes in
-- segments, the two texts that were accepted, which may be empty, and when it expires, if it does
pub record Upload : Type 0 where
  pub kind : Kind
  pub parts : List ℕ
  pub declared : Option ℕ
  pub segments : List (List ℕ)
  pub metadata : List ℕ
  pub concat : List ℕ
  pub expires : Option ℕ

-- its bytes: the segments in order
abbrev pub content_of : Upload → List ℕ
content_of u = flat_map (λ segment. segment) u.segments

-- how many bytes it has
abbrev pub offset_of : Upload → ℕ
offset_of u = length (content_of u)

-- the length is known, and so many bytes are all of them
abbrev pub is_reached : Option ℕ → ℕ → Bool
is_reached declared offset = option_map_or (λ n. n == offset) declared false

-- its length is known, and it has all of its bytes
abbrev pub is_complete : Upload → Bool
is_complete u = is_reached u.declared (offset_of u)

-- the same as a fact
abbrev pub IsComplete : Upload → Type 0
IsComplete u = u.declared ≡ Some (offset_of u)

-- what a HEAD tells of it
abbrev pub head_row_of : Upload → HeadRow
head_row_of u = record {
  kind = u.kind;
  offset = offset_of u;
  declared = u.declared;
  metadata = u.metadata;
  concat = u.concat;
  expires = u.expires;
}
