-- What a reply to a GET tells of the file that an upload is: what its metadata has under `filetype` and `filename`, the keys that
-- clients of tus give.
use Rattle.std.specs.Prelude.{ℕ, Bool, not, ◌&&◌, ◌||◌, ◌==◌, List, [], ◌∷◌, ◌++◌, length, nat_le, nat_lt, codes, Option, Some, None, if◌then◌else◌}
use Rattle.std.specs.Char.{is_ascii_alphanumeric}
use Rattle.std.specs.List.{list_all, list_any}
use Rattle.std.specs.Str.{byte, is_utf8, str_eq_ignore_ascii_case}
use Rattle.tus_text.specs.Escape.{escaped_unless}
use Rattle.tus_text.specs.MediaType.{is_media_type, type_name}
use Rattle.tus_text.specs.Pair.{value_under}

-- the type of a file of which none is told (RFC 9110, section 8.3)
abbrev pub any_type : List ℕ
any_type = codes "application/octet-stream"

-- the type that the metadata tells, where it is a media type
abbrev pub type_or_any : Option (List ℕ) → List ℕ
type_or_any None = any_type
type_or_any (Some text) = if is_media_type text then text else any_type

-- the type of the file of this metadata
abbrev pub file_type : List ℕ → List ℕ
file_type metadata = type_or_any (value_under (codes "filetype") metadata)

-- the types that a browser shows and of which none carries a script: images,
abbrev pub shown_images : List (List ℕ)
shown_images = codes "image/avif" ∷ codes "image/bmp" ∷ codes "image/gif" ∷ codes "image/jpeg" ∷ codes "image/png" ∷ codes "image/webp" ∷ []

-- sounds,
abbrev pub shown_sounds : List (List ℕ)
shown_sounds =
    codes "audio/aac" ∷ codes "audio/flac" ∷ codes "audio/mp4" ∷ codes "audio/mpeg" ∷ codes "audio/ogg" ∷ codes "audio/wav"
    ∷ codes "audio/webm" ∷ []

-- films,
abbrev pub shown_films : List (List ℕ)
shown_films = codes "video/mp4" ∷ codes "video/ogg" ∷ codes "video/webm" ∷ []

-- by their names in any letter case
abbrev pub is_one_of : List (List ℕ) → List ℕ → Bool
is_one_of names name = list_any (str_eq_ignore_ascii_case name) names

-- and plain text: a file of such a type may be shown in a browser's window
abbrev pub is_shown : List ℕ → Bool
is_shown media =
    let name = type_name media in
    str_eq_ignore_ascii_case name (codes "text/plain") || is_one_of shown_images name || is_one_of shown_sounds name || is_one_of shown_films name

-- disposition-type (RFC 6266, section 4.2): shown, or saved as a file
abbrev pub disposition_type : List ℕ → List ℕ
disposition_type media = if is_shown media then codes "inline" else codes "attachment"

-- a byte of a name that needs no escape within quotes: printable ASCII, but no quote, percent sign or backslash
abbrev pub is_quotable : ℕ → Bool
is_quotable b = nat_le 32 b && nat_le b 126 && not (b == 34) && not (b == 37) && not (b == 92)

-- unreserved (RFC 3986, section 2.3)
abbrev pub is_unreserved : ℕ → Bool
is_unreserved b = is_ascii_alphanumeric b || b == byte "-" || b == byte "." || b == byte "_" || b == byte "~"

abbrev pub quote : List ℕ
quote = 34 ∷ []

-- filename-parm (RFC 6266, section 4.1): within quotes, or else as an extended value (RFC 8187, section 3.2)
abbrev pub name_parameter : List ℕ → List ℕ
name_parameter name =
    if list_all is_quotable name
    then codes "; filename=" ++ quote ++ name ++ quote
    else codes "; filename*=UTF-8''" ++ escaped_unless is_unreserved name

-- a name of a file: 1 to 255 bytes of UTF-8
abbrev pub is_file_name : List ℕ → Bool
is_file_name name = nat_lt 0 (length name) && nat_le (length name) 255 && is_utf8 name

-- the parameter of the name that the metadata tells, where it is one
abbrev pub name_told : Option (List ℕ) → List ℕ
name_told None = []
name_told (Some name) = if is_file_name name then name_parameter name else []

-- Content-Disposition of a file of this type with this metadata
abbrev pub disposition : List ℕ → List ℕ → List ℕ
disposition media metadata = disposition_type media ++ name_told (value_under (codes "filename") metadata)
