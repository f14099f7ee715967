-- What a server is set up with, and the first fault of what was given.
use Rattle.std.specs.Prelude.{◌≡◌, ℕ, ◌*◌, ◌-◌, ◌^◌, Bool, false, not, ◌||◌, List, [], ◌∷◌, ◌++◌, length, map, sum_by, nat_lt, ◌==◌, Option, Some, None, Result, Ok, Err, bytes_eq, codes, position}
use Rattle.std.specs.Borrow.{Bor}
use Rattle.std.specs.List.{list_all, list_any}
use Rattle.tus_text.specs.Tenant.{is_tenant_name}
use Rattle.upload_book.specs.declared.settings.Bounds.{Bounds}
use Rattle.upload_book.specs.declared.settings.Bounds.TheVariants.{Narrow, Wide}
use Rattle.upload_book.specs.declared.settings.Numbers.{Numbers}
use Rattle.upload_book.specs.declared.settings.TenantQuota.{TenantQuota}
use Rattle.upload_book.specs.declared.settings_fault.SettingsFault.{SettingsFault}
use Rattle.upload_book.specs.declared.settings_fault.SettingsFault.TheVariants.{Blocks, BlockSize, PoolBytes, Lifetime, FinishedLifetime, MaxSize, Uploads, LastId, TenantCount, TenantName, TenantTwice, Quota}
use Rattle.upload_book.specs.Refusal.{first_that_holds}

-- the numbers, and the tenants in the order in which they were given
pub record Settings : Type 0 where
  pub numbers : Numbers
  pub tenants : List TenantQuota

-- names with their quotas, as tenants
abbrev pub tenants_of : List (Bor (List ℕ) × ℕ) → List TenantQuota
tenants_of given = map {A = Bor (List ℕ) × ℕ} {B = TenantQuota} (λ t. record { name = t.0.now; quota = t.1 }) given

-- the number is outside 1 to most
abbrev pub is_outside : ℕ → ℕ → Bool
is_outside n most = n == 0 || nat_lt most n

-- one of the later tenants has this name
abbrev pub is_named_again : List ℕ → List TenantQuota → Bool
is_named_again name tenants = list_any (λ t. bytes_eq t.name name) tenants

-- two tenants have one name
abbrev pub has_name_twice : List TenantQuota → Bool
has_name_twice [] = false
has_name_twice (t ∷ tenants) = is_named_again t.name tenants || has_name_twice tenants

-- the most blocks that there may be, under these bounds
abbrev pub blocks_limit : Bounds → ℕ
blocks_limit Narrow = 2 ^ 20
blocks_limit Wide = 2 ^ 32 - 1

-- the most bytes of a block: 64 KiB, or 1 MiB
abbrev pub block_size_limit : Bounds → ℕ
block_size_limit Narrow = 2 ^ 16
block_size_limit Wide = 2 ^ 20

-- the most bytes of all blocks together: 1 GiB, or 16 TiB
abbrev pub pool_limit : Bounds → ℕ
pool_limit Narrow = 2 ^ 30
pool_limit Wide = 2 ^ 44

-- the most that the greatest size of an upload may be, under these bounds: 16 MiB, or 1 TiB
abbrev pub size_limit : Bounds → ℕ
size_limit Narrow = 2 ^ 24
size_limit Wide = 2 ^ 40

-- the most uploads of a tenant, under these bounds
abbrev pub uploads_limit : Bounds → ℕ
uploads_limit Narrow = 64
uploads_limit Wide = 2 ^ 16

-- the tests of the numbers under these bounds, in this order
abbrev pub number_tests : Bounds → Numbers → List (Bool × SettingsFault)
number_tests bounds n =
    (is_outside n.blocks (blocks_limit bounds), Blocks)
    ∷ (is_outside n.block_size (block_size_limit bounds), BlockSize)
    ∷ (nat_lt (pool_limit bounds) (n.blocks * n.block_size), PoolBytes)
    ∷ (is_outside n.lifetime 31536000, Lifetime)
    ∷ (nat_lt 31536000 n.finished_lifetime, FinishedLifetime)
    ∷ (is_outside n.max_size (size_limit bounds), MaxSize)
    ∷ (is_outside n.uploads (uploads_limit bounds), Uploads)
    ∷ (is_outside n.last_id (2 ^ 64 - 2), LastId)
    ∷ []

-- the tests of the tenants, whose quotas may be this many blocks together
abbrev pub tenant_tests : ℕ → List TenantQuota → List (Bool × SettingsFault)
tenant_tests blocks tenants =
    (is_outside (length tenants) 16, TenantCount)
    ∷ (not (list_all (λ t. is_tenant_name t.name) tenants), TenantName)
    ∷ (has_name_twice tenants, TenantTwice)
    ∷ (nat_lt blocks (sum_by (λ t. t.quota) tenants), Quota)
    ∷ []

-- the first fault of the settings under these bounds: those of the numbers come first
abbrev pub settings_fault : Bounds → Settings → Option SettingsFault
settings_fault bounds s = first_that_holds (number_tests bounds s.numbers ++ tenant_tests s.numbers.blocks s.tenants)

-- the settings have no fault under the widest bounds, as all have that are made
abbrev pub AreSound : Settings → Type 0
AreSound s = settings_fault Wide s ≡ None

-- settings are those that were given, unless these have a fault under these bounds
abbrev pub settings_of : Bounds → Settings → Result Settings SettingsFault
settings_of bounds given = settings_or given (settings_fault bounds given) where
  settings_or : Settings → Option SettingsFault → Result Settings SettingsFault
  settings_or given None = Ok given
  settings_or given (Some fault) = Err fault

-- the word that names a fault
abbrev pub fault_word : SettingsFault → List ℕ
fault_word Blocks = codes "blocks"
fault_word BlockSize = codes "block-size"
fault_word PoolBytes = codes "pool-bytes"
fault_word Lifetime = codes "lifetime"
fault_word FinishedLifetime = codes "finished-lifetime"
fault_word MaxSize = codes "max-size"
fault_word Uploads = codes "uploads"
fault_word LastId = codes "last-id"
fault_word TenantCount = codes "tenants"
fault_word TenantName = codes "tenant"
fault_word TenantTwice = codes "twice"
fault_word Quota = codes "quota"

-- the place of a name in the list of tenants, from 0
abbrev pub tenant_place : Settings → List ℕ → Option ℕ
tenant_place s name = position (λ t. bytes_eq t.name name) s.tenants
