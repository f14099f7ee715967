-- What the fields of a connection ask for (RFC 9110, sections 5.6.1, 7.6.1 and 10.1.1).
use Rattle.std.specs.Prelude.{ℕ, Bool, false, ◌==◌, List, bytes_eq, codes}
use Rattle.std.specs.List.{slice_split, list_any}
use Rattle.http_header.specs.Token.{lowercase}
use Rattle.tus_steps.specs.Field.{FieldText, absent, one, many}
use Rattle.tus_steps.specs.Media.{trim_blanks}

-- a token of the field is `close`, in any letter case; tokens are cut at commas (44)
abbrev pub is_close : List ℕ → Bool
is_close token = bytes_eq (lowercase (trim_blanks token)) (codes "close")

abbrev pub has_close : List ℕ → Bool
has_close value = list_any is_close (slice_split (λ b. b == 44) value)

-- one of several Connection fields has it
abbrev pub closes : List (List ℕ) → Bool
closes values = list_any has_close values

-- the one Expect field is `100-continue`, in any letter case
abbrev pub asks_to_continue : FieldText → Bool
asks_to_continue absent = false
asks_to_continue (one value) = bytes_eq (lowercase value) (codes "100-continue")
asks_to_continue many = false
