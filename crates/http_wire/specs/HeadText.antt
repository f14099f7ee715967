-- Where a message's head ends in a list of bytes (RFC 9112, sections 2.1 and 2.2).
use Rattle.std.specs.Prelude.{ℕ, suc, ◌+◌, Bool, ◌&&◌, ◌||◌, ◌==◌, nat_lt, nat_le, if◌then◌else◌, List, [], ◌∷◌, length, take, drop, count_by, Option, None, Some, option_map}
use Rattle.std.specs.List.{prefix_len}

-- the greatest number of bytes of a head, with the line ends before it
abbrev pub head_limit : ℕ
head_limit = 16384

-- the most fields of a head
abbrev pub field_limit : ℕ
field_limit = 64

-- CR or LF
abbrev pub is_line_end : ℕ → Bool
is_line_end b = b == 13 || b == 10

-- a byte ends an empty line: an LF after an LF, or after an LF and a CR
abbrev pub ends_empty_line : ℕ → ℕ → ℕ → Bool
ends_empty_line before last b = b == 10 && (last == 10 || (last == 13 && before == 10))

-- how many of the bytes, which follow two others, reach to the end of the first empty line
abbrev pub head_len_after : ℕ → ℕ → List ℕ → Option ℕ
head_len_after before last [] = None
head_len_after before last (b ∷ bytes) =
    if ends_empty_line before last b then Some 1 else option_map suc (head_len_after last b bytes)

-- the length of the head at the start: the shortest prefix that ends in LF LF or in LF CR LF
abbrev pub head_len : List ℕ → Option ℕ
head_len bytes = head_len_after 0 0 bytes

-- what a list of bytes begins with, up to the end of the head: a whole head and what follows it, more than a head may have, a head that the end cut off, or nothing but line ends
pub data HeadText : Type 0 where
  whole : List ℕ → List ℕ → HeadText
  too_long cut nothing : HeadText

-- the head at the start of a text before which some line ends were skipped
abbrev pub text_at : ℕ → List ℕ → Option ℕ → HeadText
text_at skipped text (Some n) =
    if nat_le (skipped + n) head_limit then whole (take n text) (drop n text) else too_long
text_at skipped [] None = if nat_le head_limit skipped then too_long else nothing
text_at skipped (b ∷ text) None = if nat_le head_limit (skipped + length (b ∷ text)) then too_long else cut

-- the line ends at the start
abbrev pub blank_len : List ℕ → ℕ
blank_len bytes = prefix_len is_line_end bytes

-- the head at the start of all bytes of an input
abbrev pub head_text : List ℕ → HeadText
head_text input = let text = drop (blank_len input) input in text_at (blank_len input) text (head_len text)

-- the lines of a text, each ended by an LF
abbrev pub line_count : List ℕ → ℕ
line_count text = count_by (λ b. b == 10) text

-- more lines than a head may have fields stand between the first line and the empty one
abbrev pub has_many_lines : List ℕ → Bool
has_many_lines text = nat_lt (field_limit + 2) (line_count text)
