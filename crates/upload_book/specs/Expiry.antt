-- When an upload expires (tus 1.0.0, Expiration): when it gets an end, when that is renewed, and when it has
-- expired.
use Rattle.std.specs.Prelude.{ℕ, ◌+◌, Bool, true, false, not, ◌||◌, max, min, nat_le, nat_lt, Option, Some, None, is_some, unwrap_or, if◌then◌else◌}
use Rattle.std.specs.Option.{option_map_or}
use Rattle.upload_book.specs.declared.head_row.Kind.{Kind}
use Rattle.upload_book.specs.declared.head_row.Kind.TheVariants.{Plain, Partial, Final}
use Rattle.upload_book.specs.declared.settings.Numbers.{Numbers}

-- so many seconds later, or the last second that a date of HTTP can name, 23:59:59 on the last day of the year 9999
abbrev pub later_by : ℕ → ℕ → ℕ
later_by now seconds = min (now + seconds) 253402300799

-- when an upload that is touched now expires: a lifetime later
abbrev pub lifetime_end : Numbers → ℕ → ℕ
lifetime_end n now = later_by now n.lifetime

-- finished uploads end by themselves
abbrev pub ends_finished : Numbers → Bool
ends_finished n = nat_lt 0 n.finished_lifetime

-- when an upload that is finished now expires, if finished ones end by themselves
abbrev pub finished_end : Numbers → ℕ → Option ℕ
finished_end n now = if ends_finished n then Some (later_by now n.finished_lifetime) else None

-- When an upload expires that is touched now, by its kind, whether it was complete before and is now, and when it expired
-- before, if it did. One of its own that is finished by this ends as finished ones do, and one that was finished before as
-- it did. Any other that is no final one ends a lifetime later, but not earlier than before. A new upload is one that did
-- not expire before. A final upload is never touched.
abbrev pub renewed : Numbers → Kind → Bool → Bool → Option ℕ → ℕ → Option ℕ
renewed n Plain true complete before now = before
renewed n Plain false true before now = finished_end n now
renewed n Plain false false before now = Some (max (unwrap_or before 0) (lifetime_end n now))
renewed n Partial was complete before now = Some (max (unwrap_or before 0) (lifetime_end n now))
renewed n Final was complete before now = before

-- A finished upload may have this end, if any, where finished ones end by themselves: it has none where it was finished under
-- numbers by which they stay. Where they stay it has none.
abbrev pub may_end_finished : Numbers → Option ℕ → Bool
may_end_finished n expires = ends_finished n || not (is_some expires)

-- an upload of a kind, complete or not, may have this end, if any: a partial one always has one, one of its own until it is
-- finished, and one that is finished as finished ones may
abbrev pub may_end : Numbers → Kind → Bool → Option ℕ → Bool
may_end n Plain true expires = may_end_finished n expires
may_end n Plain false expires = is_some expires
may_end n Partial complete expires = is_some expires
may_end n Final complete expires = may_end_finished n expires

-- an upload with this end, if any, has expired at a moment: from the end on
abbrev pub has_expired : ℕ → Option ℕ → Bool
has_expired now expires = option_map_or (λ end. nat_le end now) expires false
