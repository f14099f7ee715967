-- A header that is laid in its place, part by part.
use Rattle.std.proofs.Common.{◌≡◌, ℕ, ◌+◌, ◌-◌, ◌^◌, List, ◌++◌, length, sum, replicate, refl, arith, length-append}
use borrow.Rule.Slice.PartMut.{put_mid}
use Rattle.std.proofs.lemmas.List.Sums.{sum_by-append}
use Rattle.sqlite_disk.specs.Digest.{digest}
use Rattle.journal_frames.specs.Frames.{balance, body, frame, framed, number}

pub body_len : (key : ℕ) (payload : List ℕ) → length (body key payload) ≡ 8 + length payload
unfolding body
body_len key payload = length-append (number (digest key payload)) payload

pub body_balance : (key : ℕ) (payload : List ℕ) (lacking : ℕ) → lacking ≡ 2 ^ 64 - 1 - (8 + length payload) - sum (number (digest key payload)) - sum payload → lacking ≡ balance (body key payload)
unfolding body
body_balance key payload lacking is = omega (arith, length-append (number (digest key payload)) payload, sum_by-append (λ x. x) (number (digest key payload)) payload)

pub header_laid : (key : ℕ) (payload len told digits : List ℕ) → len ≡ number (length (body key payload)) → told ≡ number (balance (body key payload)) → digits ≡ number (digest key payload)
    → put_mid 16 8 (put_mid 8 8 (len ++ replicate 16 0) told) digits ++ payload ≡ frame key payload
unfolding body framed
header_laid key payload len told digits len_is told_is digits_is = rw (len_is, told_is, digits_is) refl
