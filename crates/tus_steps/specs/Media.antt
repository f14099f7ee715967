-- The content type of a PATCH (tus 1.0.0, Core Protocol, PATCH; RFC 9110, section 8.3.1).
use Rattle.std.specs.Prelude.{ℕ, Bool, false, ◌||◌, ◌==◌, List, [], ◌∷◌, reverse, bytes_eq, codes, if◌then◌else◌}
use Rattle.std.specs.List.{before_first}
use Rattle.std.specs.Str.{str_to_ascii_lowercase}
use Rattle.tus_steps.specs.Field.{FieldText, absent, one, many}

-- a space or a tab
abbrev pub is_blank_byte : ℕ → Bool
is_blank_byte b = b == 32 || b == 9

-- the bytes from the first that is no blank
abbrev pub skip_blanks : List ℕ → List ℕ
skip_blanks [] = []
skip_blanks (b ∷ bytes) = if is_blank_byte b then skip_blanks bytes else b ∷ bytes

-- the bytes without the blanks at both ends
abbrev pub trim_blanks : List ℕ → List ℕ
trim_blanks bytes = reverse (skip_blanks (reverse (skip_blanks bytes)))

-- the value names the type, in any letter case and with any parameters
abbrev pub is_patch_type : List ℕ → Bool
is_patch_type value =
    bytes_eq (str_to_ascii_lowercase (trim_blanks (before_first (λ b. b == 59) value))) (codes "application/offset+octet-stream")

-- the field stands once, with that type
abbrev pub has_patch_type : FieldText → Bool
has_patch_type absent = false
has_patch_type (one value) = is_patch_type value
has_patch_type many = false
