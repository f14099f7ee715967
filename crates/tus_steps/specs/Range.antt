-- Which bytes of an upload a GET asks for, and which it gets (RFC 9110, sections 13.1.5, 14.1.2, 14.2 and 15.5.17).
use Rattle.std.specs.Prelude.{ℕ, ◌+◌, ◌-◌, min, nat_lt, ◌==◌, ◌&&◌, List, drop, take, Option, Some, None, if◌then◌else◌}
use Rattle.tus_text.specs.declared.range.ByteRange.{ByteRange}
use Rattle.tus_text.specs.declared.range.ByteRange.TheVariants.{Between, From, Last}
use Rattle.tus_text.specs.Range.{byte_range_of}
use Rattle.tus_steps.specs.Field.{FieldText, absent, one}
use Rattle.tus_steps.specs.declared.range.Extent.{Extent}
use Rattle.tus_steps.specs.declared.range.Extent.TheVariants.{Plain, Whole, Range}
use Rattle.tus_steps.specs.declared.range.RangeAsked.{RangeAsked}
use Rattle.tus_steps.specs.declared.range.RangeAsked.TheVariants.{Unserved, All, One}

-- the range that was read, or all bytes
abbrev pub one_or_all : Option ByteRange → RangeAsked
one_or_all None = All
one_or_all (Some range) = One range

-- One field Range that tells one range counts, where no field If-Range stands beside it. Else all bytes are asked for.
abbrev pub range_asked : FieldText → FieldText → RangeAsked
range_asked (one value) absent = one_or_all (byte_range_of value)
range_asked _ _ = All

-- the part of so many bytes from a place up to another, if it has some
abbrev pub extent_up_to : ℕ → ℕ → ℕ → Option Extent
extent_up_to first end len = if nat_lt first end then Some (Range first (end - 1) len) else None

-- The part of so many bytes that a range is, if they have one. A last place beyond them is that of the last byte, and more than
-- all at the end are all. Of no bytes at all no part can be told, so some at their end are given as a whole.
abbrev pub extent_in : ByteRange → ℕ → Option Extent
extent_in (Between first last) len = extent_up_to first (min (last + 1) len) len
extent_in (From first) len = extent_up_to first len len
extent_in (Last count) len = if nat_lt 0 count && len == 0 then Some Whole else extent_up_to (len - count) len len

-- which of so many bytes are given; none where none of them is asked for
abbrev pub extent_of : RangeAsked → ℕ → Option Extent
extent_of Unserved len = Some Plain
extent_of All len = Some Whole
extent_of (One range) len = extent_in range len

-- those bytes
abbrev pub bytes_in : Extent → List ℕ → List ℕ
bytes_in Plain bytes = bytes
bytes_in Whole bytes = bytes
bytes_in (Range first last len) bytes = take ((last + 1) - first) (drop first bytes)
