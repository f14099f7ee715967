-- The tenants that words NAME:QUOTA name, and what their quotas come to.
use Rattle.std.specs.Prelude.{ℕ, ◌+◌, ◌-◌, ◌*◌, ◌/◌, ◌^◌, length, max, min, nat_lt, Bool, ◌==◌, List, [], ◌∷◌, Option, Some, None, option_map, option_and_then, unwrap_or, if◌then◌else◌}
use Rattle.std.specs.Borrow.{Bor}
use Rattle.std.specs.List.{before_first, after_first}
use Rattle.std.specs.Option.{option_map_or}
use Rattle.std.specs.Str.{byte}
use Rattle.tus_text.specs.Tenant.{is_tenant_name}
use Rattle.upload_book.specs.declared.settings.Bounds.TheVariants.{Wide}
use Rattle.upload_book.specs.declared.settings.TenantQuota.{TenantQuota}
use Rattle.upload_book.specs.Settings.{blocks_limit, pool_limit, size_limit}
use Rattle.server_words.specs.Quota.{quota_of}

abbrev pub is_colon : ℕ → Bool
is_colon b = b == byte ":"

-- a name with its quota, as a tenant
abbrev pub with_quota : Bor (List ℕ) × ℕ → TenantQuota
with_quota t = record { name = t.0.now; quota = t.1 }

-- the tenant of this name and quota, where the name is a tenant's
abbrev pub tenant_named : List ℕ → ℕ → Option TenantQuota
tenant_named name quota = if is_tenant_name name then Some (record { name = name; quota = quota }) else None

-- The tenant that a word names, where a block has so many bytes. Its name stands before the first `:` of the word, and after
-- it its quota. Where there is no `:` nothing stands after it, which is no quota.
abbrev pub tenant_in : ℕ → List ℕ → Option TenantQuota
tenant_in size word = option_and_then (tenant_named (before_first is_colon word)) (quota_of size (after_first is_colon word))

-- the tenants that the words name, in order; None where one of the words names none
abbrev pub tenants_in : ℕ → List (List ℕ) → Option (List TenantQuota)
tenants_in size [] = Some []
tenants_in size (word ∷ words) =
    option_and_then (λ tenant. option_map (λ tenants. tenant ∷ tenants) (tenants_in size words)) (tenant_in size word)

-- the quota of a word, 0 where it names no tenant
abbrev pub quota_in : ℕ → List ℕ → ℕ
quota_in size word = option_map_or (λ t. t.quota) (tenant_in size word) 0

-- what the quotas of the words sum to, where that is below 2^64
abbrev pub quota_sum : ℕ → List (List ℕ) → Option ℕ
quota_sum size [] = Some 0
quota_sum size (word ∷ words) =
    option_and_then (λ sum. if nat_lt (sum + quota_in size word) (2 ^ 64) then Some (sum + quota_in size word) else None) (quota_sum size words)

-- the most blocks of this size that a server may have under the wide bounds
abbrev pub pool_blocks : ℕ → ℕ
pool_blocks size = if size == 0 then 1 else min (pool_limit Wide / size) (blocks_limit Wide)

-- As many blocks as the quotas sum to, but not more than a server may have, and one at least. With more tenants than there may
-- be it is one: they are the fault.
abbrev pub blocks_of_quotas : ℕ → List (List ℕ) → ℕ
blocks_of_quotas size words =
    if nat_lt 16 (length words) then 1 else max (min (unwrap_or (quota_sum size words) (2 ^ 64 - 1)) (pool_blocks size)) 1

-- the greatest quota of the words, in blocks
abbrev pub greatest_quota : ℕ → List (List ℕ) → ℕ
greatest_quota size [] = 0
greatest_quota size (word ∷ words) = max (quota_in size word) (greatest_quota size words)

-- As many bytes as the greatest quota has, but not more than an upload may have, and one at least. With more tenants than there
-- may be it is one.
abbrev pub greatest_quota_bytes : ℕ → List (List ℕ) → ℕ
greatest_quota_bytes size words =
    if nat_lt 16 (length words) then 1 else max (min (greatest_quota size words * size) (size_limit Wide)) 1
