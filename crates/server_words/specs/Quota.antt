-- The quota of a tenant, as a word writes it: a number of blocks, or of bytes with a unit, as `16MiB`.
use Rattle.std.specs.Prelude.{ℕ, ◌*◌, ◌-◌, ◌/◌, ◌^◌, ◌==◌, List, length, take, drop, nat_lt, Option, Some, None, option_and_then, bytes_eq, codes, if◌then◌else◌}
use Rattle.tus_text.specs.Number.{number_of}

-- how many bytes a unit has
abbrev pub unit_bytes : List ℕ → Option ℕ
unit_bytes unit =
    if bytes_eq unit (codes "KiB") then Some (2 ^ 10)
    else (if bytes_eq unit (codes "MiB") then Some (2 ^ 20)
    else (if bytes_eq unit (codes "GiB") then Some (2 ^ 30)
    else (if bytes_eq unit (codes "TiB") then Some (2 ^ 40) else None)))

-- how many whole blocks of this size so many bytes are; none, where a block has no byte, which is a fault of the settings
abbrev pub whole_blocks : ℕ → ℕ → ℕ
whole_blocks size bytes = if size == 0 then 0 else bytes / size

-- a number of units in whole blocks, where it is below 2^64 bytes
abbrev pub blocks_of_units : ℕ → ℕ → ℕ → Option ℕ
blocks_of_units size number unit =
    if nat_lt (number * unit) (2 ^ 64) then Some (whole_blocks size (number * unit)) else None

-- a number before a unit, which is the last three bytes
abbrev pub bytes_quota : ℕ → List ℕ → Option ℕ
bytes_quota size text =
    option_and_then (λ number. option_and_then (blocks_of_units size number) (unit_bytes (drop (length text - 3) text)))
    (number_of (take (length text - 3) text))

-- the quota that a text writes in blocks of this size, where it writes one
abbrev pub quota_or : Option ℕ → Option ℕ → Option ℕ
quota_or None other = other
quota_or (Some n) other = Some n

abbrev pub quota_of : ℕ → List ℕ → Option ℕ
quota_of size text = quota_or (number_of text) (bytes_quota size text)
