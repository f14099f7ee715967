-- A message that is lent, behind its reference.
use Rattle.std.specs.Prelude.{ℕ, List}
use Rattle.tus_steps.specs.Request.{Request}
use Rattle.http_wire.specs.Incoming.{FramedRequest}
use Rattle.http_wire.specs.Layout.{request_at, framed_at, target_at}
use Rattle.http_wire.specs.declared.message.Message.{Message}

-- its request
abbrev pub request_in : Message → Request
request_in m = request_at m.layout m.text.now

-- the target of its request
abbrev pub target_in : Message → List ℕ
target_in m = target_at m.layout m.text.now

-- its request and its framing
abbrev pub framed : Message → FramedRequest
framed m = framed_at m.text.now m.layout
