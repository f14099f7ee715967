-- How fast a client goes, and for what it is cut off. A bound of 0 is none.
use Rattle.std.specs.Prelude.{ℕ, ◌+◌, ◌*◌, ◌-◌, ◌^◌, Bool, true, false, ◌&&◌, Option, Some, None, nat_lt, nat_le, min, unwrap_or}
use Rattle.std.specs.Prelude.{if◌then◌else◌}
use Rattle.connection_turns.specs.declared.pace.ClientBounds.{ClientBounds}
use Rattle.connection_turns.specs.declared.pace.Busy.{Busy}
use Rattle.connection_turns.specs.declared.pace.Busy.TheVariants as busy
use Rattle.connection_turns.specs.declared.pace.Late.{Late}
use Rattle.connection_turns.specs.declared.pace.Late.TheVariants as late
use Rattle.connection_turns.specs.declared.pace.Pace.{Pace}
use Rattle.connection_turns.specs.declared.pace.Window.{Window}

-- a client that came at this second
abbrev pub setting_out : ℕ → Pace
setting_out second = record { moved = second; begun = None; window = None }

-- so many seconds have passed in full since some moment of that second
abbrev pub is_over : ℕ → ℕ → ℕ → Bool
is_over bound since second = nat_lt 0 bound && nat_lt bound (second - since)

-- ten seconds or more have passed in full, with fewer bytes than this rate a second
abbrev pub is_slow : ℕ → Window → ℕ → Bool
is_slow rate w second = nat_le 11 (second - w.since) && nat_lt w.bytes (rate * ((second - w.since) - 1))

-- when the message began that is under way: a head or a body
abbrev pub begun_by : ℕ → Busy → Option ℕ → Option ℕ
begun_by second busy.Idle begun = None
begun_by second busy.Head begun = Some (unwrap_or begun second)
begun_by second busy.Body begun = Some (unwrap_or begun second)
begun_by second busy.Reply begun = None

-- what was counted and so many bytes more, up to the greatest number; or these bytes since this second
abbrev pub counted : Option Window → ℕ → ℕ → Window
counted None second bytes = record { since = second; bytes = bytes }
counted (Some w) second bytes = record { since = w.since; bytes = min (w.bytes + bytes) (2 ^ 64 - 1) }

-- the bytes of the body or the reply that is under way
abbrev pub counted_by : ℕ → ℕ → Busy → Option Window → Option Window
counted_by second bytes busy.Idle w = None
counted_by second bytes busy.Head w = None
counted_by second bytes busy.Body w = Some (counted w second bytes)
counted_by second bytes busy.Reply w = Some (counted w second bytes)

-- nothing is under way, once a message was answered
abbrev pub unless : {T : Type 0} → Bool → Option T → Option T
unless true t = None
unless false t = t

-- what is known after a turn at this second in which so many bytes passed: the client is at this now, and a message was
-- answered or not
abbrev pub noted : ℕ → ℕ → Busy → Bool → Pace → Pace
noted second bytes busy answered p = record {
  moved = if nat_lt 0 bytes then second else p.moved;
  begun = begun_by second busy (unless answered p.begun);
  window = counted_by second bytes busy (unless answered p.window);
}

-- a message took too long, or else its bytes come too slowly
abbrev pub slowness : ℕ → ClientBounds → Option Window → Option Late
slowness second b None = None
slowness second b (Some w) = if is_slow b.least_rate w second then Some late.Rate else None

abbrev pub delay : ℕ → ClientBounds → Option ℕ → Option Window → Option Late
delay second b None w = slowness second b w
delay second b (Some begun) w = if is_over b.message_seconds begun second then Some late.Message else slowness second b w

-- for what a client is cut off at this second, if for anything
abbrev pub lateness : ℕ → ClientBounds → Pace → Option Late
lateness second b p = if is_over b.idle p.moved second then Some late.Idle else delay second b p.begun p.window

-- it is counted anew once ten seconds have passed
abbrev pub renewed_window : ℕ → Option Window → Option Window
renewed_window second None = None
renewed_window second (Some w) = if nat_le 11 (second - w.since) then Some (record { since = second; bytes = 0 }) else Some w

abbrev pub renewed : ℕ → Pace → Pace
renewed second p = record p { window = renewed_window second p.window }
