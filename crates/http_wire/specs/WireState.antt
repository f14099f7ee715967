-- What a wire still does.
use Rattle.std.specs.Prelude.{ℕ, Bool, true, false, [], Result, Ok, Err}
use Rattle.http_wire.specs.declared.incoming.Incoming.{Incoming}
use Rattle.http_wire.specs.declared.incoming.Incoming.TheVariants.{Message, CutPatch, CutOther, Refused, End}
use Rattle.http_wire.specs.Incoming.{FramedRequest}
use Rattle.http_wire.specs.OnWire.{OnWire}
use Rattle.http_wire.specs.declared.fault.WireFault.{WireFault}
use Rattle.http_wire.specs.declared.incoming.Cut.TheVariants as cut
use Rattle.http_wire.specs.declared.wire.State.{State}
use Rattle.http_wire.specs.declared.wire.State.TheVariants as state

-- it reads
abbrev pub is_open : State → Bool
is_open state.Open = true
is_open state.Ended = false
is_open state.Failed = false

-- it writes
abbrev pub is_alive : State → Bool
is_alive state.Open = true
is_alive state.Ended = true
is_alive state.Failed = false

-- what it does after this came in: it reads on after a message alone, and writes on unless a read or a write failed
abbrev pub state_after : Result (Incoming FramedRequest) WireFault → State
state_after (Ok (Message m)) = state.Open
state_after (Ok (CutPatch m cut.Ended)) = state.Ended
state_after (Ok (CutPatch m cut.Fault)) = state.Failed
state_after (Ok CutOther) = state.Ended
state_after (Ok (Refused why framing)) = state.Ended
state_after (Ok End) = state.Ended
state_after (Err fault) = state.Failed

module _ {R W : Type 0} where
  -- a wire on which nothing was read or written
  abbrev pub fresh_wire : R → W → ℕ → OnWire R W
  fresh_wire reader writer max_size = record {
    reader = reader;
    writer = writer;
    held = [];
    ended = false;
    max_size = max_size;
    reads = true;
    writes = true;
  }
