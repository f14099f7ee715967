-- What comes next on a wire, by the messages in it.
use Rattle.std.specs.Prelude.{Bool, true, false, Result, Ok, Err}
use Rattle.tus_steps.specs.Request.{Request}
use Rattle.http_wire.specs.declared.fault.WireFault.{WireFault}
use Rattle.http_wire.specs.declared.framing.Framing.{Framing}
use Rattle.http_wire.specs.declared.incoming.Cut.TheVariants.{Ended, Fault}
use Rattle.http_wire.specs.declared.incoming.Incoming.{Incoming}
use Rattle.http_wire.specs.declared.incoming.Incoming.TheVariants.{Message, CutPatch, CutOther, Refused, End}

-- a message by its request, and how the reply to it is framed
pub record FramedRequest : Type 0 where
  pub request : Request
  pub framing : Framing

-- a read that failed cut it
abbrev pub is_cut_by_fault : Incoming FramedRequest → Bool
is_cut_by_fault (Message m) = false
is_cut_by_fault (CutPatch m Ended) = false
is_cut_by_fault (CutPatch m Fault) = true
is_cut_by_fault CutOther = false
is_cut_by_fault (Refused why framing) = false
is_cut_by_fault End = false

-- the same with what f gives of its message
abbrev pub map_incoming : {M N : Type 0} → (M → N) → Incoming M → Incoming N
map_incoming f (Message m) = Message (f m)
map_incoming f (CutPatch m why) = CutPatch (f m) why
map_incoming f CutOther = CutOther
map_incoming f (Refused why framing) = Refused why framing
map_incoming f End = End

-- the same of what was read, unless a read or a write failed
abbrev pub map_read : {M N : Type 0} → (M → N) → Result (Incoming M) WireFault → Result (Incoming N) WireFault
map_read f (Ok incoming) = Ok (map_incoming f incoming)
map_read f (Err fault) = Err fault
