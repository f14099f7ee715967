-- What a PATCH carries (tus 1.0.0, Core Protocol, Creation and Checksum).
use Rattle.std.specs.Prelude.{ℕ, ◌+◌, Bool, List, length, Option}
use Rattle.tus_text.specs.declared.checksum.Checksum.{Checksum}

-- where its bytes go, the length that it tells of the upload, if it does, whether it has the content type of a
-- PATCH, the checksum that came with its bytes, if one did, the bytes, and how many are to come behind them
pub record Chunk : Type 0 where
  pub offset : ℕ
  pub length : Option ℕ
  pub typed : Bool
  pub check : Option Checksum
  pub bytes : List ℕ
  pub more : ℕ

-- how many bytes the PATCH has in all
abbrev pub count_all : Chunk → ℕ
count_all chunk = length chunk.bytes + chunk.more
