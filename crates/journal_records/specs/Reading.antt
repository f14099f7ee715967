-- Reading a record from left to right. Each field gives its value and the bytes behind it, or none where it is not there.
use Rattle.std.specs.Prelude.{◌≡◌, ℕ, zero, suc, nat_lt, ◌==◌, if◌then◌else◌, Bool, true, false, List, [], ◌∷◌, length, take, drop, Option, Some, None}
use Rattle.std.specs.Int.{w64, from_be_bytes}
use Rattle.tus_text.specs.declared.checksum.Checksum.{Checksum}
use Rattle.tus_text.specs.declared.checksum.Checksum.TheVariants.{Sha1, Other}
use Rattle.upload_book.specs.Chunk.{Chunk}
use Rattle.upload_book.specs.FirstChunk.{FirstChunk}
use Rattle.upload_book.specs.NewFinal.{NewFinal}
use Rattle.upload_book.specs.NewUpload.{NewUpload}
use Rattle.upload_book.specs.declared.change.Change.{Change}
use Rattle.upload_book.specs.declared.change.Change.TheVariants.{Create, Append, Concat, Terminate, Sweep, Restore}
use Rattle.upload_book.specs.declared.head_row.Kind.{Kind}
use Rattle.upload_book.specs.declared.head_row.Kind.TheVariants.{Plain, Partial, Final}
use Rattle.upload_book.specs.declared.head_row.Name.{Name}
use Rattle.upload_book.specs.declared.restored.Restored.TheVariants as piece
use Rattle.upload_book.specs.snapshot.Restored.{RestoredSegment, RestoredUpload}

infixl 10 ◌>>=◌
abbrev pub ◌>>=◌ : {A B : Type 0} → Option A → (A → Option B) → Option B
(Some x) >>= f = f x
None >>= f = None

-- what a call gave, seen by a view, is what reading gives
abbrev pub Gives : {X Y : Type 0} → (X → Y) → Option X → Option Y → Type 0
Gives view (Some x) read = read ≡ Some (view x)
Gives view None read = read ≡ None

-- ---- fields

abbrev pub byte_at : List ℕ → Option (ℕ × List ℕ)
byte_at [] = None
byte_at (b ∷ rest) = Some (b, rest)

unfoldable pub number_at : List ℕ → Option (ℕ × List ℕ)
number_at bytes = if nat_lt (length bytes) 8 then None else Some (from_be_bytes w64 (take 8 bytes), drop 8 bytes)

-- so many bytes
unfoldable pub bytes_at : ℕ → List ℕ → Option (List ℕ × List ℕ)
bytes_at n bytes = if nat_lt (length bytes) n then None else Some (take n bytes, drop n bytes)

unfoldable pub flag_at : List ℕ → Option (Bool × List ℕ)
flag_at [] = None
flag_at (zero ∷ rest) = Some (false, rest)
flag_at (suc zero ∷ rest) = Some (true, rest)
flag_at (suc (suc b) ∷ rest) = None

-- a number that is not 0
unfoldable pub nonzero_at : List ℕ → Option (ℕ × List ℕ)
nonzero_at bytes = do
  n ← number_at bytes
  if n.0 == 0 then None else Some (n.0, n.1)

-- a flag, and how many bytes are still to come: none behind a whole body
unfoldable pub flag_more_at : List ℕ → Option ((Bool × ℕ) × List ℕ)
flag_more_at [] = None
flag_more_at (zero ∷ rest) = Some ((false, 0), rest)
flag_more_at (suc zero ∷ rest) = Some ((true, 0), rest)
flag_more_at (suc (suc zero) ∷ rest) = do
  n ← nonzero_at rest
  Some ((false, n.0), n.1)
flag_more_at (suc (suc (suc zero)) ∷ rest) = do
  n ← nonzero_at rest
  Some ((true, n.0), n.1)
flag_more_at (suc (suc (suc (suc b))) ∷ rest) = None

unfoldable pub optional_at : List ℕ → Option (Option ℕ × List ℕ)
optional_at [] = None
optional_at (zero ∷ rest) = Some (None, rest)
optional_at (suc zero ∷ rest) = do
  n ← number_at rest
  Some (Some n.0, n.1)
optional_at (suc (suc b) ∷ rest) = None

unfoldable pub text_at : List ℕ → Option (List ℕ × List ℕ)
text_at bytes = do
  n ← number_at bytes
  bytes_at n.0 n.1

unfoldable pub check_at : List ℕ → Option (Option Checksum × List ℕ)
check_at [] = None
check_at (zero ∷ rest) = Some (None, rest)
check_at (suc zero ∷ rest) = do
  digest ← bytes_at 20 rest
  Some (Some (Sha1 digest.0), digest.1)
check_at (suc (suc zero) ∷ rest) = Some (Some Other, rest)
check_at (suc (suc (suc b)) ∷ rest) = None

unfoldable pub name_at : List ℕ → Option (Name × List ℕ)
name_at bytes = do
  tenant ← byte_at bytes
  id ← number_at tenant.1
  Some (record { tenant = tenant.0; id = id.0 }, id.1)

-- so many of one form, one after another
unfoldable pub many_at : {A : Type 0} → (List ℕ → Option (A × List ℕ)) → ℕ → List ℕ → Option (List A × List ℕ)
many_at read zero bytes = Some ([], bytes)
many_at read (suc n) bytes = do
  first ← read bytes
  others ← many_at read n first.1
  Some (first.0 ∷ others.0, others.1)

-- at most 32 parts
unfoldable pub parts_at : List ℕ → Option (List (Option ℕ) × List ℕ)
parts_at bytes = do
  n ← number_at bytes
  if nat_lt 32 n.0 then None else many_at optional_at n.0 n.1

-- a second up to the end of the year 9999
unfoldable pub moment_at : List ℕ → Option (ℕ × List ℕ)
moment_at bytes = do
  secs ← number_at bytes
  if nat_lt 253402300799 secs.0 then None else Some (secs.0, secs.1)

unfoldable pub expires_at : List ℕ → Option (Option ℕ × List ℕ)
expires_at [] = None
expires_at (zero ∷ rest) = Some (None, rest)
expires_at (suc zero ∷ rest) = do
  secs ← moment_at rest
  Some (Some secs.0, secs.1)
expires_at (suc (suc b) ∷ rest) = None

unfoldable pub kind_at : List ℕ → Option (Kind × List ℕ)
kind_at [] = None
kind_at (zero ∷ rest) = Some (Plain, rest)
kind_at (suc zero ∷ rest) = Some (Partial, rest)
kind_at (suc (suc zero) ∷ rest) = Some (Final, rest)
kind_at (suc (suc (suc b)) ∷ rest) = None

unfoldable pub optional_text_at : List ℕ → Option (Option (List ℕ) × List ℕ)
optional_text_at [] = None
optional_text_at (zero ∷ rest) = Some (None, rest)
optional_text_at (suc zero ∷ rest) = do
  bytes ← text_at rest
  Some (Some bytes.0, bytes.1)
optional_text_at (suc (suc b) ∷ rest) = None

unfoldable pub segment_at : List ℕ → Option (RestoredSegment × List ℕ)
segment_at bytes = do
  origin ← number_at bytes
  brought ← optional_text_at origin.1
  Some (record { origin = origin.0; bytes = brought.0 }, brought.1)

-- at most 32 segments
unfoldable pub segments_at : List ℕ → Option (List RestoredSegment × List ℕ)
segments_at bytes = do
  n ← number_at bytes
  if nat_lt 32 n.0 then None else many_at segment_at n.0 n.1

-- nothing may stand behind the last field
abbrev pub at_end : {A : Type 0} → A × List ℕ → Option A
at_end (value, []) = Some value
at_end (value, b ∷ rest) = None

-- ---- changes

unfoldable pub upload_at : List ℕ → Option (NewUpload × List ℕ)
upload_at bytes = do
  partial ← flag_at bytes
  told ← optional_at partial.1
  metadata ← text_at told.1
  concat ← text_at metadata.1
  Some (record { partial = partial.0; length = told.0; metadata = metadata.0; concat = concat.0 }, concat.1)

-- what a creation carries, to the end
unfoldable pub first_at : List ℕ → Option FirstChunk
first_at bytes = do
  typed ← flag_more_at bytes
  check ← check_at typed.1
  Some (record { typed = typed.0.0; check = check.0; bytes = check.1; more = typed.0.1 })

-- what a PATCH carries, to the end
unfoldable pub chunk_at : List ℕ → Option Chunk
chunk_at bytes = do
  offset ← number_at bytes
  told ← optional_at offset.1
  typed ← flag_more_at told.1
  check ← check_at typed.1
  Some (record { offset = offset.0; length = told.0; typed = typed.0.0; check = check.0; bytes = check.1; more = typed.0.1 })

-- a final upload, to the end
unfoldable pub final_at : List ℕ → Option NewFinal
final_at bytes = do
  parts ← parts_at bytes
  metadata ← text_at parts.1
  Some (record { parts = parts.0; metadata = metadata.0; concat = metadata.1 })

unfoldable pub create_at : List ℕ → Option Change
create_at bytes = do
  tenant ← byte_at bytes
  new ← upload_at tenant.1
  first ← first_at new.1
  Some (Create tenant.0 new.0 first)

unfoldable pub append_at : List ℕ → Option Change
append_at bytes = do
  name ← name_at bytes
  chunk ← chunk_at name.1
  Some (Append name.0 chunk)

unfoldable pub concat_at : List ℕ → Option Change
concat_at bytes = do
  tenant ← byte_at bytes
  new ← final_at tenant.1
  Some (Concat tenant.0 new)

unfoldable pub terminate_at : List ℕ → Option Change
terminate_at bytes = do
  name ← name_at bytes
  ended ← at_end name
  Some (Terminate ended)

abbrev pub sweep_at : List ℕ → Option Change
sweep_at [] = Some Sweep
sweep_at (b ∷ rest) = None

-- an upload that is put back with these segments, to the end
unfoldable pub fields_at : List RestoredSegment → List ℕ → Option RestoredUpload
fields_at segments bytes = do
  id ← number_at bytes
  kind ← kind_at id.1
  declared ← optional_at kind.1
  expires ← expires_at declared.1
  metadata ← text_at expires.1
  Some (record { id = id.0; kind = kind.0; declared = declared.0; segments = segments; metadata = metadata.0; concat = metadata.1; expires = expires.0 })

-- an upload that is put back: its segments first
unfoldable pub back_at : List ℕ → Option RestoredUpload
back_at bytes = do
  segments ← segments_at bytes
  fields_at segments.0 segments.1

unfoldable pub restore_at : List ℕ → Option Change
restore_at bytes = do
  tenant ← byte_at bytes
  r ← back_at tenant.1
  Some (Restore (piece.Upload tenant.0 r))

unfoldable pub next_at : List ℕ → Option Change
next_at bytes = do
  name ← name_at bytes
  ended ← at_end name
  Some (Restore (piece.Next ended.tenant ended.id))

unfoldable pub totals_at : List ℕ → Option Change
totals_at bytes = do
  released ← number_at bytes
  ended ← at_end released
  Some (Restore (piece.Totals ended))

-- a change that lends no list, by its kind
abbrev pub other_at : ℕ → List ℕ → Option Change
other_at kind fields =
    if kind == 0 then create_at fields else if kind == 1 then append_at fields else if kind == 3 then terminate_at fields else if kind == 4 then sweep_at fields else if kind == 6 then next_at fields else if kind == 7 then totals_at fields else None

-- the kind, and the fields of the change
unfoldable pub change_at : List ℕ → Option Change
change_at bytes = do
  kind ← byte_at bytes
  if kind.0 == 2 then concat_at kind.1 else if kind.0 == 5 then restore_at kind.1 else other_at kind.0 kind.1

-- a moment, and the change
unfoldable pub record_at : List ℕ → Option (ℕ × Change)
record_at bytes = do
  now ← moment_at bytes
  change ← change_at now.1
  Some (now.0, change)
