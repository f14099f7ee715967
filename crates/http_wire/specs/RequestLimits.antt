-- What a request may have: the most bytes of its body, by its kind, and whether it may ask for a range of an upload's bytes.
use Rattle.std.specs.Prelude.{◌<◌, ◌≤◌, ◌^◌, ℕ, false, if◌then◌else◌}
use Rattle.tus_steps.specs.Field.{FieldText}
use Rattle.tus_steps.specs.Method.{is_taken_in_pieces}
use Rattle.tus_steps.specs.declared.method.Method.{Method}
use Rattle.tus_steps.specs.declared.range.RangeAsked.{RangeAsked}
use Rattle.tus_steps.specs.declared.range.RangeAsked.TheVariants.{Unserved}
use Rattle.tus_steps.specs.Range.{range_asked}
use Rattle.http_wire.specs.declared.request_limits.RequestLimits.{RequestLimits}

-- the same for every request, and no ranges
abbrev pub alike : ℕ → RequestLimits
alike most = record { plain = most; other = most; ranges = false }

-- the most bytes for a method that is in force, and for what is told of the checksum
abbrev pub limit_by : RequestLimits → Method → FieldText → ℕ
limit_by limits method checksum = if is_taken_in_pieces method checksum then limits.plain else limits.other

-- which bytes of an upload are asked for by what is told of Range and If-Range: nothing is told of ranges where none are served
abbrev pub range_by : RequestLimits → FieldText → FieldText → RangeAsked
range_by limits range condition = if limits.ranges then range_asked range condition else Unserved

-- neither limit of a body is above this
abbrev pub AreWithin : RequestLimits → ℕ → Type 0
AreWithin limits most = (limits.plain ≤ most) × (limits.other ≤ most)

-- Both limits of a body are below 2^62. So a head, a body and a read behind them have fewer than 2^63 bytes.
abbrev pub AreSmall : RequestLimits → Type 0
AreSmall limits = (limits.plain < 2 ^ 62) × (limits.other < 2 ^ 62)
