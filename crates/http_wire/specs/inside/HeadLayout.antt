-- What the reading of a head gives: its layout, or why it is refused.
use Rattle.std.specs.Prelude.{◌≡◌, ℕ, List, length, Ok, Some, None, false, Result, Err, ◌++◌, take, drop}
use Rattle.httparse.specs.Grammar.{RequestHead}
use Rattle.httparse.specs.Spans.{span_bytes, IsRequestAt, IsRequestWithin}
use Rattle.httparse.specs.declared.spans.HeaderSpan.{HeaderSpan}
use Rattle.httparse.specs.declared.spans.RequestSpans.{RequestSpans}
use Rattle.tus_steps.specs.TusFields.{map_fields}
use Rattle.http_wire.specs.Layout.{field_at}
use Rattle.http_wire.specs.NextMessage.{Parses, method_in, tus_fields, framing_of, range_in, is_waiting, judged, closing, Begins, refused}
use Rattle.http_wire.specs.declared.read.layout.Layout.{Layout}
use Rattle.http_wire.specs.HeadText.{whole, has_many_lines, head_text}
use Rattle.http_wire.specs.declared.read.head.RefusedHead.{RefusedHead}
use Rattle.http_wire.specs.declared.request_limits.RequestLimits.{RequestLimits}

-- a line that was parsed is that of a head, which is the whole text, with its fields
pub record IsLine (text : List ℕ) (spans : List HeaderSpan) (line : RequestSpans) (h : RequestHead) : Type 0 where
  pub parses : Parses text (Some h)
  pub at : IsRequestAt text spans line h
  pub within : IsRequestWithin text spans line
  pub whole : line.len ≡ length text

-- the spans of a line are those of a head
pub record HasLine (text : List ℕ) (line : RequestSpans) (h : RequestHead) : Type 0 where
  pub method : span_bytes text line.method ≡ h.method
  pub target : span_bytes text line.path ≡ h.target
  pub version : line.version ≡ h.minor

-- the layout is that of a head
pub record ShowsHead (limits : RequestLimits) (head : List ℕ) (h : RequestHead) (p : Layout) : Type 0 where
  pub method : p.method ≡ method_in h
  pub framing : p.framing ≡ framing_of h
  pub is_waiting : p.is_waiting ≡ is_waiting h p.body_len
  pub body_len : judged limits h ≡ Ok p.body_len
  pub given : p.given ≡ 0
  pub more : p.more ≡ 0
  pub created : p.created ≡ None
  pub target : span_bytes head p.target ≡ h.target
  pub fields : map_fields (field_at head) p.fields ≡ tus_fields h
  pub range : p.range ≡ range_in limits h

-- the layout of a head whose fields are judged well, or the refusal by them
abbrev pub JudgesHead : RequestLimits → List ℕ → RequestHead → Result Layout RefusedHead → Type 0
JudgesHead limits text h (Ok p) = ShowsHead limits text h p
JudgesHead limits text h (Err e) = (judged limits h ≡ Err e.refusal) × (e.framing ≡ closing (framing_of h))

-- What a head text gives: the layout of its head, or a refusal that an input begins with which begins
-- with this text, whatever follows it.
abbrev pub ReadsLayout : RequestLimits → List ℕ → Result Layout RefusedHead → Type 0
ReadsLayout limits text (Ok p) = (has_many_lines text ≡ false) × ((h : RequestHead) × Parses text (Some h) × ShowsHead limits text h p)
ReadsLayout limits text (Err e) = (rest : List ℕ) → Begins limits (whole text rest) (refused e.refusal e.framing)

-- these bytes begin with a whole head of this layout, which is held with what follows it
pub record BeginsHead (limits : RequestLimits) (bytes : List ℕ) (p : Layout) (held : List ℕ) : Type 0 where
  pub head : RequestHead
  pub few : has_many_lines (take p.head_len held) ≡ false
  pub parses : Parses (take p.head_len held) (Some head)
  pub shows : ShowsHead limits (take p.head_len held) head p
  pub begins : (rest : List ℕ) → head_text (bytes ++ rest) ≡ whole (take p.head_len held) (drop p.head_len held ++ rest)
