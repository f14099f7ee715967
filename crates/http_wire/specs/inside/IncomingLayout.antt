-- What came in, as its layout in the bytes that the read buffer lends.
use Rattle.std.specs.Prelude.{ℕ, List, Result, ⊤}
use Rattle.http_wire.specs.Incoming.{map_read}
use Rattle.http_wire.specs.Layout.{IsMessage, framed_at}
use Rattle.http_wire.specs.ReadOnWire.{Intake, ReadsNext}
use Rattle.http_wire.specs.declared.fault.WireFault.{WireFault}
use Rattle.http_wire.specs.declared.incoming.Incoming.{Incoming}
use Rattle.http_wire.specs.declared.incoming.Incoming.TheVariants.{Message, CutPatch, CutOther, Refused, End}
use Rattle.http_wire.specs.declared.read.layout.Layout.{Layout}
use Rattle.http_wire.specs.inside.Ahead.{Ahead}
use Rattle.http_wire.specs.declared.request_limits.RequestLimits.{RequestLimits}

-- these bytes are those of a message or of a cut PATCH, where there is one
abbrev pub IsLent : List ℕ → Incoming Layout → Type 0
IsLent text (Message p) = IsMessage p text
IsLent text (CutPatch p why) = IsMessage p text
IsLent text CutOther = ⊤
IsLent text (Refused why framing) = ⊤
IsLent text End = ⊤

-- what a reading gave, whose message the read buffer lends
abbrev pub ReadsIncoming : RequestLimits → Intake → Ahead → Result (Incoming Layout) WireFault → Type 0
ReadsIncoming limits i a r = ReadsNext limits i a.held (map_read (framed_at a.lent) r)
