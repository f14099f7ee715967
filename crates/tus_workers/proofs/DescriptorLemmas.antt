-- How many connections a limit of descriptors leaves.
use Rattle.std.proofs.Common.{◌≤◌, ◌<◌, ◌+◌, ◌-◌, ◌*◌, ◌/◌, ℕ, arith}
use Rattle.std.proofs.Math.Nat.{div-add-mod}
use Rattle.std.proofs.lemmas.Nat.{mod_below, mul-le}

-- one more for each worker is too many
pub none-more : (limit workers kept : ℕ) → 0 < workers → (limit - 31) / workers ≤ kept + 4 → limit < 31 + workers * (kept + 1 + 4)
none-more limit workers kept some most =
    let parts = div-add-mod (limit - 31) workers in
    let rest = mod_below (limit - 31) workers some in
    let times = mul-le workers ((limit - 31) / workers) workers (kept + 4) (omega arith) most in
    omega (arith, parts, rest, times)
