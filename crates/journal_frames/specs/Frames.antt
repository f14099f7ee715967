-- Payloads as frames, one after another, and what is read of a file of them.
use Rattle.std.specs.Prelude.{◌≡◌, ℕ, zero, suc, ◌+◌, ◌-◌, ◌^◌, ◌<◌, ◌≤◌, ◌==◌, nat_lt, if◌then◌else◌, List, [], ◌∷◌, ◌++◌, length, take, drop, slice_index, sum, bytes_eq, Result, Ok, Err}
use Rattle.std.specs.Int.{w64, from_be_bytes, to_be_bytes}
use Rattle.std.specs.List.{flat_map}
use Rattle.sqlite_disk.specs.Digest.{digest}
use Rattle.journal_frames.specs.declared.tail.Tail.{Tail}
use Rattle.journal_frames.specs.declared.tail.Tail.TheVariants.{Torn, Cut, Damaged}

-- a number as eight bytes, the highest first
abbrev pub number : ℕ → List ℕ
number n = to_be_bytes w64 n

-- the number whose eight bytes stand first
abbrev pub number_at : List ℕ → ℕ
number_at bytes = from_be_bytes w64 (take 8 bytes)

-- ---- writing

-- what a frame holds: the digest of its payload under the key of the file, and the payload
unfoldable pub body : ℕ → List ℕ → List ℕ
body key payload = number (digest key payload) ++ payload

-- how much the length of a body and the sum of its bytes lack to 2^64 - 1
abbrev pub balance : List ℕ → ℕ
balance bytes = 2 ^ 64 - 1 - (length bytes + sum bytes)

-- a body behind its length and its balance
unfoldable pub framed : List ℕ → List ℕ
framed bytes = number (length bytes) ++ (number (balance bytes) ++ bytes)

-- the frame of a payload: length, balance, digest, payload
abbrev pub frame : ℕ → List ℕ → List ℕ
frame key payload = framed (body key payload)

abbrev pub frames : ℕ → List (List ℕ) → List ℕ
frames key payloads = flat_map (frame key) payloads

-- each of them is a byte
abbrev pub AreBytes : List ℕ → Type 0
AreBytes bytes = (i : ℕ) → slice_index bytes i < 256

-- what a frame can hold: at most 2^32 bytes
pub record Fits (payload : List ℕ) : Type 0 where
  pub short : length payload ≤ 2 ^ 32
  pub bytes : AreBytes payload

-- ---- reading

-- A body that balances is whole where the digest before its payload is the payload's. No crash makes another one.
abbrev pub opened : ℕ → List ℕ → Result (List ℕ) Tail
opened key bytes = if bytes_eq (take 8 bytes) (number (digest key (drop 8 bytes))) then Ok (drop 8 bytes) else Err Damaged

-- A crash lowers the numbers of a frame or leaves them. So the balance that is told may be less than that of the body
-- which stands there, and is never more.
abbrev pub weighed : ℕ → ℕ → List ℕ → Result (List ℕ) Tail
weighed key told bytes =
    if nat_lt told (balance bytes) then Err Torn else if told == balance bytes then opened key bytes else Err Damaged

-- A length above the greatest is damage. One past the end of the file is that of a frame that was cut off.
abbrev pub judged : ℕ → ℕ → ℕ → List ℕ → Result (List ℕ) Tail
judged key len told behind =
    if nat_lt (2 ^ 32 + 8) len then Err Damaged else if nat_lt (length behind) len then Err Cut else weighed key told (take len behind)

-- what stands first in a file: the payload of a whole frame, or what else it is
unfoldable pub first_frame : ℕ → List ℕ → Result (List ℕ) Tail
first_frame key file = if nat_lt (length file) 16 then Err Cut else judged key (number_at file) (number_at (drop 8 file)) (drop 8 (drop 8 file))

-- a payload that was read stands first in the file, in its frame
pub record Stands (key : ℕ) (file payload : List ℕ) : Type 0 where
  pub whole : file ≡ frame key payload ++ drop (24 + length payload) file
  pub fits : Fits payload
  pub there : 24 + length payload ≤ length file

-- the payloads that were read, and what stands behind the last of them
pub record Reading : Type 0 where
  pub payloads : List (List ℕ)
  pub tail : Tail

-- a payload before what is read behind its frame, which has 24 bytes more, one of them its first
abbrev pub before : Result (List ℕ) Tail → (ℕ → Reading) → Reading
before (Err tail) behind = record { payloads = []; tail = tail }
before (Ok payload) behind = record { payloads = payload ∷ (behind (23 + length payload)).payloads; tail = (behind (23 + length payload)).tail }

-- the same of a file whose first bytes, so many, belong to a frame that was read
unfoldable pub read_past : ℕ → ℕ → List ℕ → Reading
read_past key passed [] = record { payloads = []; tail = Cut }
read_past key (suc passed) (b ∷ file) = read_past key passed file
read_past key zero (b ∷ file) = before (first_frame key (b ∷ file)) (λ passed. read_past key passed file)

-- the payloads of a file, up to the first place where no whole frame stands
abbrev pub recovered : ℕ → List ℕ → List (List ℕ)
recovered key file = (read_past key 0 file).payloads

-- what stands there
abbrev pub tail_of : ℕ → List ℕ → Tail
tail_of key file = (read_past key 0 file).tail
