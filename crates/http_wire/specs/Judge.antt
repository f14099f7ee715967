-- The length of a request's body, and the refusals of a request by its fields, in their order (RFC
-- 9112, sections 3.2 and 6.3).
use Rattle.std.specs.Prelude.{ℕ, Bool, true, false, ◌==◌, not, nat_lt, if◌then◌else◌, List, [], ◌∷◌, Option, Some, None, is_none, unwrap_or, Result, Ok, Err}
use Rattle.tus_text.specs.Number.{number_of}
use Rattle.tus_steps.specs.Field.{FieldText, absent, one, many, is_absent}
use Rattle.http_wire.specs.declared.refusal.WireRefusal.{WireRefusal}
use Rattle.http_wire.specs.declared.refusal.WireRefusal.TheVariants.{Host, Coding, ContentLength, BodySize}

-- a request of HTTP/1.1 has one Host, one of HTTP/1.0 at most one
abbrev pub is_host_wrong : ℕ → FieldText → Bool
is_host_wrong minor absent = minor == 1
is_host_wrong minor (one value) = false
is_host_wrong minor many = true

-- how many bytes Content-Length tells, where it is a number or not there
abbrev pub body_len : FieldText → Option ℕ
body_len absent = Some 0
body_len (one value) = number_of value
body_len many = None

-- that length, unless it is no number or above the greatest
abbrev pub sized : ℕ → Option ℕ → Result ℕ WireRefusal
sized max None = Err ContentLength
sized max (Some n) = if nat_lt max n then Err BodySize else Ok n

-- the length of the body, or the first refusal that applies
abbrev pub judge : ℕ → ℕ → FieldText → FieldText → FieldText → Result ℕ WireRefusal
judge max minor host coding length =
    if is_host_wrong minor host then Err Host
    else (if is_absent coding then sized max (body_len length) else Err Coding)

-- the tests of a request by its fields, in their order
abbrev pub judge_tests : ℕ → ℕ → FieldText → FieldText → FieldText → List (Bool × WireRefusal)
judge_tests max minor host coding length =
    (is_host_wrong minor host, Host)
    ∷ (not (is_absent coding), Coding)
    ∷ (is_none (body_len length), ContentLength)
    ∷ (nat_lt max (unwrap_or (body_len length) 0), BodySize)
    ∷ []
