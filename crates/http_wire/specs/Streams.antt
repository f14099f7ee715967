-- How the reader and the writer of a connection are seen, and when a write has failed.
use Rattle.std.specs.Prelude.{ℕ, Bool, List, Option, true, ◌&&◌, ◌==◌, nat_lt, length, Result, Ok, Err}

-- What is left to read of a reader, and whether a read of it failed; what is written to a writer, and whether a write to it
-- failed. The bytes of some readers and writers are not known.
pub record Streams (R W : Type 0) : Type 0 where
  pub remaining : R → Option (List ℕ)
  pub read_failed : R → Bool
  pub contents : W → Option (List ℕ)
  pub write_failed : W → Bool

module _ {R W : Type 0} where
  abbrev pub streams : (R → Option (List ℕ)) → (R → Bool) → (W → Option (List ℕ)) → (W → Bool) → Streams R W
  streams remaining read_failed contents write_failed = record {
    remaining = remaining;
    read_failed = read_failed;
    contents = contents;
    write_failed = write_failed;
  }

-- a write failed: it gave an error, or took nothing of some bytes
abbrev pub took_nothing : {E : Type 0} → Result ℕ E → List ℕ → Bool
took_nothing (Ok n) bytes = (n == 0) && nat_lt 0 (length bytes)
took_nothing (Err e) bytes = true
