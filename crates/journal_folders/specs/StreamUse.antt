-- What a run does to a stream.
use Rattle.std.specs.Prelude.{◌≡◌, ℕ, ◌≤◌, Bool, true, false, List, length, take, Option}
use Rattle.std.specs.Io.KnownBytes.{Appends, Keeps}

-- A reader or a writer as a run found it and as it left it; the bytes that are left to be read, or that were written,
-- before and after, where they are known; and whether a call of it has failed.
pub record StreamUse (S : Type 0) : Type 0 where
  pub old : S
  pub new : S
  pub before : Option (List ℕ)
  pub after : Option (List ℕ)
  pub has_failed : Bool

-- the use of a stream of which this is seen: its bytes, and whether a call of it has failed
abbrev pub used : {S : Type 0} → (S → Option (List ℕ)) → (S → Bool) → S → S → StreamUse S
used bytes has_failed old new = record {
  old = old;
  new = new;
  before = bytes old;
  after = bytes new;
  has_failed = has_failed new;
}

-- the stream is as it was
abbrev pub IsUntouched : {S : Type 0} → StreamUse S → Type 0
IsUntouched stream = stream.new ≡ stream.old

-- its bytes are as they were, where they are known
abbrev pub KeepsBytes : {S : Type 0} → StreamUse S → Type 0
KeepsBytes stream = Keeps stream.before stream.after

-- no call of it has failed
abbrev pub IsAlive : {S : Type 0} → StreamUse S → Type 0
IsAlive stream = stream.has_failed ≡ false

-- the text was written, or, where the stream has failed, a prefix of it
unfoldable pub WritesOrFails : Option (List ℕ) → Option (List ℕ) → Bool → List ℕ → Type 0
WritesOrFails before after false text = Appends before after text
WritesOrFails before after true text = (n : ℕ) × (n ≤ length text) × Appends before after (take n text)
