-- What a head text begins, where it was parsed.
use Rattle.std.proofs.Common.{◌≡◌, ℕ, List, false, Some, Ok, Err, Result, ap, inl}
use Rattle.httparse.specs.Grammar.{RequestHead}
use Rattle.http_wire.specs.HeadText.{has_many_lines}
use Rattle.http_wire.specs.NextMessage.{Parses, refused, judged, judged_message}
use Rattle.http_wire.specs.inside.HeadLayout.{JudgesHead, ReadsLayout}
use Rattle.http_wire.specs.declared.read.head.RefusedHead.{RefusedHead}
use Rattle.http_wire.specs.declared.read.layout.Layout.{Layout}
use Rattle.http_wire.specs.declared.request_limits.RequestLimits.{RequestLimits}

-- a head text gives what its head is judged to be
pub ReadsLayout-judged : (limits : RequestLimits) (text : List ℕ) (h : RequestHead) (r : Result Layout RefusedHead) → has_many_lines text ≡ false → Parses text (Some h)
    → JudgesHead limits text h r → ReadsLayout limits text r
ReadsLayout-judged limits text h (Ok p) few parses s = (few, (h, parses, s))
ReadsLayout-judged limits text h (Err e) few parses s = λ rest.
    let same : refused e.refusal e.framing ≡ judged_message limits h (judged limits h) rest = rw s.0 (ap (refused e.refusal) s.1) in
    rw few (Some h, parses, inl same)
