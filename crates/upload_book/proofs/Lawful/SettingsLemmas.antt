-- What settings with no fault keep.
use Rattle.std.proofs.Common.{◌≡◌, ℕ, ◌*◌, ◌<◌, ◌≤◌, Bool, false, ltb, List, [], ◌∷◌, ◌++◌, length, None, arith}
use Rattle.std.specs.List.{sum_by}
use Rattle.std.specs.Prelude.{⊤}
use Rattle.std.proofs.lemmas.Bool.Decides.{nat_tests}
use Rattle.upload_book.specs.declared.settings_fault.SettingsFault.{SettingsFault}
use Rattle.upload_book.specs.Refusal.{first_that_holds}
use Rattle.upload_book.specs.declared.settings.Bounds.{Bounds}
use Rattle.upload_book.specs.declared.settings.Bounds.TheVariants.{Narrow, Wide}
use Rattle.upload_book.specs.Settings.{AreSound, Settings, is_outside, number_tests, tenant_tests, settings_fault}
use Rattle.upload_book.proofs.Lawful.FirstRefusal.{test-passed}

-- no test holds
abbrev NoneHolds : List (Bool × SettingsFault) → Type 0
NoneHolds [] = ⊤
NoneHolds (test ∷ tests) = (test.0 ≡ false) × NoneHolds tests

none_holds : (tests : List (Bool × SettingsFault)) → first_that_holds tests ≡ None → NoneHolds tests
none_holds [] h = tt
none_holds (test ∷ tests) h =
    let passed = test-passed test.0 test.1 (first_that_holds tests) h in (passed.0, none_holds tests passed.1)

within : (n most : ℕ) → is_outside n most ≡ false → n ≤ most
within n most h = grind (arith, nat_tests)

-- settings that have no fault under any bounds have none under the widest
pub sound-within : (bounds : Bounds) (s : Settings) → settings_fault bounds s ≡ None → AreSound s
sound-within Wide s h = h
sound-within Narrow s h =
    let tests = number_tests Narrow s.numbers ++ tenant_tests s.numbers.blocks s.tenants in
    let holds : NoneHolds tests = none_holds tests h in
    rw (
      wider s.numbers.blocks 1048576 4294967295 (omega arith) holds.0,
      wider s.numbers.block_size 65536 1048576 (omega arith) holds.1.0,
      larger (s.numbers.blocks * s.numbers.block_size) 1073741824 17592186044416 (omega arith) holds.1.1.0,
      wider s.numbers.max_size 16777216 1099511627776 (omega arith) holds.1.1.1.1.1.0,
      wider s.numbers.uploads 64 65536 (omega arith) holds.1.1.1.1.1.1.0,
    ) (rw (holds.0, holds.1.0, holds.1.1.0, holds.1.1.1.1.1.0, holds.1.1.1.1.1.1.0) at h)
  where
    wider : (n most more : ℕ) → most ≤ more → is_outside n most ≡ false → is_outside n more ≡ false
    wider n most more less test = grind (arith, nat_tests)

    larger : (n most more : ℕ) → most ≤ more → ltb most n ≡ false → ltb more n ≡ false
    larger n most more less test = grind (arith, nat_tests)

-- the last id is below the greatest number
pub last_id-within : (s : Settings) → AreSound s → s.numbers.last_id ≤ 18446744073709551614
last_id-within s h =
    let tests = number_tests Wide s.numbers ++ tenant_tests s.numbers.blocks s.tenants in
    let holds : NoneHolds tests = none_holds tests h in
    within s.numbers.last_id 18446744073709551614 holds.1.1.1.1.1.1.1.0

-- the greatest size is within its range
pub max_size-within : (s : Settings) → AreSound s → s.numbers.max_size ≤ 1099511627776
max_size-within s h =
    let tests = number_tests Wide s.numbers ++ tenant_tests s.numbers.blocks s.tenants in
    let holds : NoneHolds tests = none_holds tests h in
    within s.numbers.max_size 1099511627776 holds.1.1.1.1.1.0

-- the quotas are within the blocks
pub quotas-within : (s : Settings) → AreSound s → sum_by (λ t. t.quota) s.tenants ≤ s.numbers.blocks
quotas-within s h =
    let tests = number_tests Wide s.numbers ++ tenant_tests s.numbers.blocks s.tenants in
    let holds : NoneHolds tests = none_holds tests h in
    at_most s.numbers.blocks (sum_by (λ t. t.quota) s.tenants) holds.1.1.1.1.1.1.1.1.1.1.1.0
  where
    at_most : (most k : ℕ) → ltb most k ≡ false → k ≤ most
    at_most most k test = grind (arith, nat_tests)

-- there are not more blocks than a pool has
pub blocks-within : (s : Settings) → AreSound s → s.numbers.blocks ≤ 4294967295
blocks-within s h =
    let tests = number_tests Wide s.numbers ++ tenant_tests s.numbers.blocks s.tenants in
    let holds : NoneHolds tests = none_holds tests h in
    within s.numbers.blocks 4294967295 holds.0

-- a block has a byte
pub block_size-some : (s : Settings) → AreSound s → 0 < s.numbers.block_size
block_size-some s h =
    let tests = number_tests Wide s.numbers ++ tenant_tests s.numbers.blocks s.tenants in
    let holds : NoneHolds tests = none_holds tests h in
    some s.numbers.block_size 1048576 holds.1.0
  where
    some : (n most : ℕ) → is_outside n most ≡ false → 0 < n
    some n most test = grind (arith, nat_tests)

-- a tenant has few uploads
pub uploads-within : (s : Settings) → AreSound s → s.numbers.uploads ≤ 65536
uploads-within s h =
    let tests = number_tests Wide s.numbers ++ tenant_tests s.numbers.blocks s.tenants in
    let holds : NoneHolds tests = none_holds tests h in
    within s.numbers.uploads 65536 holds.1.1.1.1.1.1.0

-- there are few tenants
pub tenants-within : (s : Settings) → AreSound s → length s.tenants ≤ 16
tenants-within s h =
    let tests = number_tests Wide s.numbers ++ tenant_tests s.numbers.blocks s.tenants in
    let holds : NoneHolds tests = none_holds tests h in
    within (length s.tenants) 16 holds.1.1.1.1.1.1.1.1.0
