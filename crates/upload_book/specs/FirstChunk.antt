-- The first bytes of an upload, which its creation carries (tus 1.0.0, Creation With Upload and Checksum).
use Rattle.std.specs.Prelude.{ℕ, ◌+◌, Bool, true, List, [], length, Option, None}
use Rattle.tus_text.specs.declared.checksum.Checksum.{Checksum}

-- whether they have the content type of a PATCH, the checksum that came with them, if one did, the bytes, and how many are to
-- come behind them
pub record FirstChunk : Type 0 where
  pub typed : Bool
  pub check : Option Checksum
  pub bytes : List ℕ
  pub more : ℕ

-- how many bytes the creation has in all
abbrev pub count_all_first : FirstChunk → ℕ
count_all_first first = length first.bytes + first.more

-- what a creation carries that sends no bytes
abbrev pub no_chunk : FirstChunk
no_chunk = record { typed = true; check = None; bytes = []; more = 0 }
