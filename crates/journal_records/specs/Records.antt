-- A change of the book and its moment, as bytes.
use Rattle.std.specs.Prelude.{◌≡◌, ℕ, ◌<◌, ◌≤◌, ◌^◌, ◌==◌, Bool, true, false, if◌then◌else◌, List, [], ◌∷◌, ◌++◌, length, slice_index, Option, Some, None, IfSome, ⊤}
use Rattle.std.specs.Int.{w64, to_be_bytes}
use Rattle.std.specs.List.{flat_map, AllByRecursion}
use Rattle.tus_text.specs.declared.checksum.Checksum.{Checksum}
use Rattle.tus_text.specs.declared.checksum.Checksum.TheVariants.{Sha1, Other}
use Rattle.upload_book.specs.Chunk.{Chunk}
use Rattle.upload_book.specs.FirstChunk.{FirstChunk}
use Rattle.upload_book.specs.NewFinal.{NewFinal}
use Rattle.upload_book.specs.NewUpload.{NewUpload}
use Rattle.upload_book.specs.declared.change.Change.{Change}
use Rattle.upload_book.specs.declared.change.Change.TheVariants.{Create, Append, Concat, Terminate, Sweep, Restore}
use Rattle.upload_book.specs.declared.head_row.Kind.{Kind}
use Rattle.upload_book.specs.declared.head_row.Kind.TheVariants.{Plain, Partial, Final}
use Rattle.upload_book.specs.declared.head_row.Name.{Name}
use Rattle.upload_book.specs.declared.restored.Restored.{Restored}
use Rattle.upload_book.specs.declared.restored.Restored.TheVariants as piece
use Rattle.upload_book.specs.snapshot.Restored.{RestoredSegment, RestoredUpload}

-- ---- fields

-- eight bytes, the highest first
abbrev pub number : ℕ → List ℕ
number n = to_be_bytes w64 n

abbrev pub flag : Bool → List ℕ
flag false = 0 ∷ []
flag true = 1 ∷ []

-- a flag, and the number where there is one
abbrev pub optional : Option ℕ → List ℕ
optional None = 0 ∷ []
optional (Some n) = 1 ∷ number n

-- how many bytes, and these
abbrev pub text : List ℕ → List ℕ
text bytes = number (length bytes) ++ bytes

-- a flag, where all bytes came; and of a piece another flag, and how many bytes are still to come behind its own
abbrev pub flag_more : Bool → ℕ → List ℕ
flag_more set more = if more == 0 then flag set else (if set then 3 else 2) ∷ number more

-- none, or SHA-1 with its 20 bytes, or another algorithm
abbrev pub check : Option Checksum → List ℕ
check None = 0 ∷ []
check (Some (Sha1 digest)) = 1 ∷ digest
check (Some Other) = 2 ∷ []

abbrev pub name_bytes : Name → List ℕ
name_bytes name = name.tenant ∷ number name.id

-- how many parts, and each
abbrev pub parts : List (Option ℕ) → List ℕ
parts ids = number (length ids) ++ flat_map optional ids

-- which kind of upload it is
abbrev pub kind_byte : Kind → ℕ
kind_byte Plain = 0
kind_byte Partial = 1
kind_byte Final = 2

-- a flag, and the text where there is one
abbrev pub optional_text : Option (List ℕ) → List ℕ
optional_text None = 0 ∷ []
optional_text (Some bytes) = 1 ∷ text bytes

-- a segment that is put back: its origin, and the bytes that it brings, if it does
abbrev pub segment_bytes : RestoredSegment → List ℕ
segment_bytes s = number s.origin ++ optional_text s.bytes

-- how many segments, and each
abbrev pub segments_bytes : List RestoredSegment → List ℕ
segments_bytes segments = number (length segments) ++ flat_map segment_bytes segments

-- ---- changes

unfoldable pub upload_bytes : NewUpload → List ℕ
upload_bytes new = flag new.partial ++ optional new.length ++ text new.metadata ++ text new.concat

unfoldable pub first_bytes : FirstChunk → List ℕ
first_bytes first = flag_more first.typed first.more ++ check first.check ++ first.bytes

unfoldable pub chunk_bytes : Chunk → List ℕ
chunk_bytes chunk = number chunk.offset ++ optional chunk.length ++ flag_more chunk.typed chunk.more ++ check chunk.check ++ chunk.bytes

unfoldable pub final_bytes : NewFinal → List ℕ
final_bytes new = parts new.parts ++ text new.metadata ++ new.concat

-- an upload that is put back: its segments, and what else it has
unfoldable pub back_bytes : RestoredUpload → List ℕ
back_bytes r = segments_bytes r.segments ++ number r.id ++ (kind_byte r.kind ∷ []) ++ optional r.declared ++ optional r.expires ++ text r.metadata ++ r.concat

-- a byte for which piece it is that is put back, and its fields
abbrev pub piece_bytes : Restored → List ℕ
piece_bytes (piece.Upload tenant r) = 5 ∷ tenant ∷ back_bytes r
piece_bytes (piece.Next tenant next) = 6 ∷ name_bytes (record { tenant = tenant; id = next })
piece_bytes (piece.Totals released) = 7 ∷ number released

-- a byte for which change it is, and its fields
abbrev pub change_bytes : Change → List ℕ
change_bytes (Create tenant new first) = 0 ∷ tenant ∷ (upload_bytes new ++ first_bytes first)
change_bytes (Append name chunk) = 1 ∷ (name_bytes name ++ chunk_bytes chunk)
change_bytes (Concat tenant new) = 2 ∷ tenant ∷ final_bytes new
change_bytes (Terminate name) = 3 ∷ name_bytes name
change_bytes Sweep = 4 ∷ []
change_bytes (Restore restored) = piece_bytes restored

-- a change and its moment: the moment first
abbrev pub record_bytes : ℕ → Change → List ℕ
record_bytes now change = number now ++ change_bytes change

-- each of them is a byte
abbrev pub AreBytes : List ℕ → Type 0
AreBytes bytes = (i : ℕ) → slice_index bytes i < 256

-- ---- what can be written so

abbrev pub IsNumber : ℕ → Type 0
IsNumber n = n < 2 ^ 64

abbrev pub FitsCheck : Option Checksum → Type 0
FitsCheck None = ⊤
FitsCheck (Some (Sha1 digest)) = length digest ≡ 20
FitsCheck (Some Other) = ⊤

pub record FitsUpload (new : NewUpload) : Type 0 where
  pub told : IfSome new.length IsNumber
  pub metadata : IsNumber (length new.metadata)
  pub concat : IsNumber (length new.concat)

pub record FitsFirst (first : FirstChunk) : Type 0 where
  pub more : IsNumber first.more
  pub check : FitsCheck first.check

pub record FitsChunk (chunk : Chunk) : Type 0 where
  pub offset : IsNumber chunk.offset
  pub told : IfSome chunk.length IsNumber
  pub more : IsNumber chunk.more
  pub check : FitsCheck chunk.check

pub record FitsFinal (new : NewFinal) : Type 0 where
  pub few : length new.parts ≤ 32
  pub parts : AllByRecursion (λ id. IfSome id IsNumber) new.parts
  pub metadata : IsNumber (length new.metadata)

pub record FitsSegment (s : RestoredSegment) : Type 0 where
  pub origin : IsNumber s.origin
  pub bytes : IfSome s.bytes (λ bytes. IsNumber (length bytes))

pub record FitsBack (r : RestoredUpload) : Type 0 where
  pub id : IsNumber r.id
  pub declared : IfSome r.declared IsNumber
  pub metadata : IsNumber (length r.metadata)
  pub expires : IfSome r.expires (λ secs. secs ≤ 253402300799)
  pub few : length r.segments ≤ 32
  pub segments : AllByRecursion FitsSegment r.segments

abbrev pub FitsPiece : Restored → Type 0
FitsPiece (piece.Upload tenant r) = FitsBack r
FitsPiece (piece.Next tenant next) = IsNumber next
FitsPiece (piece.Totals released) = IsNumber released

-- its numbers fit their eight bytes, a SHA-1 has 20 bytes, an end is a moment, and a concatenation and an upload that is
-- put back have at most 32 parts
abbrev pub FitsChange : Change → Type 0
FitsChange (Create tenant new first) = FitsUpload new × FitsFirst first
FitsChange (Append name chunk) = IsNumber name.id × FitsChunk chunk
FitsChange (Concat tenant new) = FitsFinal new
FitsChange (Terminate name) = IsNumber name.id
FitsChange Sweep = ⊤
FitsChange (Restore restored) = FitsPiece restored
