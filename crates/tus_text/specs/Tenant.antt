-- The name of a tenant, as this server's profile has it: 1 to 32 bytes of `a` to `z`, digits and `-`.
use Rattle.std.specs.Prelude.{ℕ, Bool, ◌&&◌, ◌||◌, ◌==◌, List, length, nat_lt, nat_le}
use Rattle.std.specs.List.{list_all}
use Rattle.std.specs.Char.{is_ascii_digit, is_ascii_lowercase}

-- a byte of a tenant's name; 45 is `-`
abbrev pub is_tenant_byte : ℕ → Bool
is_tenant_byte b = is_ascii_lowercase b || is_ascii_digit b || b == 45

-- the bytes are the name of a tenant
abbrev pub is_tenant_name : List ℕ → Bool
is_tenant_name name = nat_lt 0 (length name) && nat_le (length name) 32 && list_all is_tenant_byte name
