-- What is to be sent, and what one write of it did.
use Rattle.std.specs.Prelude.{⊤, ◌≡◌, ◌≢◌, ◌<◌, ◌≤◌, ℕ, Bool, true, ◌&&◌, nat_le, is_none, List, [], ◌++◌, length, take, drop, Option, Some, None, Result, OnErr, IfOk, IfErr, is_err}
use Rattle.std.specs.Io.KnownBytes.{Appends}
use Rattle.http_wire.specs.declared.fault.WireFault.{WireFault}
use Rattle.http_wire.specs.declared.fault.WireFault.TheVariants.{Write}

-- what is to be sent on a connection: the bytes that are pending, and whether one more reply may be put behind them
pub record OnOutbox : Type 0 where
  pub pending : List ℕ
  pub has_room : Bool

-- where nothing is pending there is room
abbrev pub empty_write_buffer : OnOutbox
empty_write_buffer = record { pending = []; has_room = true }

-- the bytes of an upload that follow a page, where some do
abbrev pub following : Option (List ℕ) → List ℕ
following (Some bytes) = bytes
following None = []

-- bytes of an upload are kept only while some of them are pending
abbrev pub IsUnsent : Option (List ℕ) → Type 0
IsUnsent (Some bytes) = bytes ≢ []
IsUnsent None = ⊤

-- A page of which so many bytes were sent, and the bytes of an upload that follow it. One more reply may be put behind a
-- page that nothing follows and that has at most 8,192 bytes.
abbrev pub write_buffer_of : List ℕ → ℕ → Option (List ℕ) → OnOutbox
write_buffer_of page sent tail = record {
  pending = drop sent page ++ following tail;
  has_room = is_none tail && nat_le (length page) 8192;
}

-- a page is emptied once all of it was sent, and bytes of an upload are kept only while some of them are pending
pub record IsCleared (page : List ℕ) (sent : ℕ) (tail : Option (List ℕ)) : Type 0 where
  pub within : sent ≤ length page
  pub emptied : length page ≤ sent → sent ≡ 0
  pub unsent : IsUnsent tail

-- One write took a prefix of some bytes, and at least one of them; or it failed, and took none.
pub record TakesSome (before after : Option (List ℕ)) (has_failed : Bool) (bytes : List ℕ) (r : Result ℕ WireFault) : Type 0 where
  pub count : IfOk r (λ n. (0 < n) × (n ≤ length bytes))
  pub taken : IfOk r (λ n. Appends before after (take n bytes))
  pub none : OnErr r (Appends before after [])
  pub failed : has_failed ≡ is_err r
  pub fault : IfErr r (λ e. e ≡ Write)
