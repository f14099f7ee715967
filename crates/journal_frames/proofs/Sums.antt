-- Bytes, their sums, and the numbers that eight of them are.
use Rattle.std.proofs.Common.{◌≡◌, ℕ, zero, suc, ◌+◌, ◌*◌, ◌^◌, ◌<◌, ◌≤◌, List, ◌++◌, length, get_or, take, drop, sum, arith, length-append, inl, inr}
use Rattle.std.proofs.lemmas.Bool.{cases_lt}
use Rattle.std.proofs.lemmas.List.{get_or_default, get_or-drop, get_or-take, get_or_past, length-take}
use Rattle.std.proofs.lemmas.List.Sums.{sum_by-le, sum_by-append}
use Rattle.sqlite_disk.specs.Digest.{digest}
use Rattle.journal_frames.specs.Frames.{AreBytes, Fits, body, number}

pub AreBytes-number : (n : ℕ) → AreBytes (number n)
AreBytes-number n zero = omega arith
AreBytes-number n (suc zero) = omega arith
AreBytes-number n (suc (suc zero)) = omega arith
AreBytes-number n (suc (suc (suc zero))) = omega arith
AreBytes-number n (suc (suc (suc (suc zero)))) = omega arith
AreBytes-number n (suc (suc (suc (suc (suc zero))))) = omega arith
AreBytes-number n (suc (suc (suc (suc (suc (suc zero)))))) = omega arith
AreBytes-number n (suc (suc (suc (suc (suc (suc (suc zero))))))) = omega arith
AreBytes-number n (suc (suc (suc (suc (suc (suc (suc (suc i)))))))) = omega arith

pub sum_of_bytes : (bytes : List ℕ) → AreBytes bytes → sum bytes ≤ 255 * length bytes
sum_of_bytes bytes are =
    omega (arith, sum_by-le (λ x. x) 255 bytes (λ k d within. let here : get_or bytes k 0 < 256 = are k in let same : get_or bytes k d ≡ get_or bytes k 0 = get_or_default bytes k d 0 within in omega arith))

pub AreBytes-drop : (n : ℕ) (bytes : List ℕ) → AreBytes bytes → AreBytes (drop n bytes)
AreBytes-drop n bytes are i = rw get_or-drop (are (n + i))

pub AreBytes-take : (n : ℕ) (bytes : List ℕ) → AreBytes bytes → AreBytes (take n bytes)
AreBytes-take n bytes are i =
    elim (cases_lt i n) [
      | inl lt ↦ rw (get_or-take n bytes i 0 lt) (are i)
      | inr le ↦ rw (get_or_past (take n bytes) i 0 (omega (arith, length-take n bytes))) (omega arith)
    ]

-- what a frame can hold has a balance
pub record IsBody (bytes : List ℕ) : Type 0 where
  pub short : length bytes ≤ 2 ^ 32 + 8
  pub light : length bytes + sum bytes < 2 ^ 64

pub IsBody-body : (key : ℕ) (payload : List ℕ) → Fits payload → IsBody (body key payload)
unfolding body
IsBody-body key payload fits =
    let n = number (digest key payload) in
    let len : length (n ++ payload) ≡ 8 + length payload = length-append n payload in
    let digits : sum n ≤ 255 * 8 = sum_of_bytes n (AreBytes-number (digest key payload)) in
    let rest : sum payload ≤ 255 * length payload = sum_of_bytes payload fits.bytes in
    let both : sum (n ++ payload) ≡ sum n + sum payload = sum_by-append (λ x. x) n payload in
    record { short = omega (arith, fits.short); light = omega (arith, fits.short) }
