-- A field of a request by its name, as bytes.
use Rattle.std.specs.Prelude.{ℕ, Bool, true, false, List, [], Option, Some, None, option_map, bytes_eq, if◌then◌else◌}
use Rattle.tus_text.specs.Checksum.{checksum_of}
use Rattle.tus_text.specs.declared.checksum.Checksum.{Checksum}
use Rattle.tus_text.specs.Number.{number_of}
use Rattle.upload_book.specs.Lawful.{is_kept_metadata}
use Rattle.tus_steps.specs.declared.field.Field.{Field}
use Rattle.tus_steps.specs.declared.field.Field.TheVariants.{Absent, One, Many}

-- it stands nowhere, once with this value, or more than once
pub data FieldText : Type 0 where
  absent : FieldText
  one : List ℕ → FieldText
  many : FieldText

-- the field of a request
abbrev pub text_of : Field → FieldText
text_of Absent = absent
text_of (One value) = one value.now
text_of Many = many

-- it stands nowhere
abbrev pub is_absent : FieldText → Bool
is_absent absent = true
is_absent (one value) = false
is_absent many = false

-- it stands once, with just this value
abbrev pub is_just : List ℕ → FieldText → Bool
is_just value absent = false
is_just value (one other) = bytes_eq other value
is_just value many = false

-- the number that it tells, where it stands once and is one
abbrev pub number_in : FieldText → Option ℕ
number_in absent = None
number_in (one value) = number_of value
number_in many = None

-- the number that it may tell: none where it stands nowhere, and nothing where it stands once and is no number, or more than
-- once
abbrev pub optional_number_in : FieldText → Option (Option ℕ)
optional_number_in absent = Some None
optional_number_in (one value) = option_map Some (number_of value)
optional_number_in many = None

-- the metadata that it tells, where it stands nowhere, once with no value, or once with metadata
abbrev pub metadata_in : FieldText → Option (List ℕ)
metadata_in absent = Some []
metadata_in (one value) = if is_kept_metadata value then Some value else None
metadata_in many = None

-- the checksum that it may tell: none where it stands nowhere, and nothing where it stands once and is none, or more than
-- once
abbrev pub optional_checksum_in : FieldText → Option (Option Checksum)
optional_checksum_in absent = Some None
optional_checksum_in (one value) = option_map Some (checksum_of value)
optional_checksum_in many = None
