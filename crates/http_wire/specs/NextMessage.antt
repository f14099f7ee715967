-- What the bytes of an input begin with: a message, or why there is none (RFC 9112, sections 2, 3, 5,
-- 6 and 9.3; RFC 9110, section 10.1.1).
use Rattle.std.specs.Prelude.{◌≡◌, ◌<◌, ◌≤◌, ◌+◌, ◌⊎◌, ℕ, Bool, true, false, ◌&&◌, ◌||◌, ◌==◌, nat_lt, nat_le, List, [], length, take, drop, codes, bytes_eq, if◌then◌else◌, MatchBool, Option, Some, None, Result, Ok, Err}
use Rattle.httparse.specs.Grammar.{RequestHead, ReadsRequest}
use Rattle.tus_text.specs.Path.{path_of}
use Rattle.tus_steps.specs.declared.method.Method.{Method}
use Rattle.tus_steps.specs.declared.method.Method.TheVariants as method
use Rattle.tus_steps.specs.declared.range.RangeAsked.{RangeAsked}
use Rattle.tus_steps.specs.Field.{FieldText, absent, one, many}
use Rattle.tus_steps.specs.Request.{Request}
use Rattle.tus_steps.specs.Method.{is_applied_when_cut, is_head}
use Rattle.tus_steps.specs.declared.tus_fields.TusFields.{TusFields}
use Rattle.tus_steps.specs.TusFields.{fields_by}
use Rattle.http_wire.specs.RequestLimits.{limit_by, range_by}
use Rattle.http_wire.specs.ConnectionFields.{closes, asks_to_continue}
use Rattle.http_wire.specs.Fields.{values_named, field_text}
use Rattle.http_wire.specs.HeadText.{field_limit, HeadText, whole, too_long, cut, nothing, head_text, has_many_lines}
use Rattle.http_wire.specs.Judge.{judge}
use Rattle.http_wire.specs.declared.framing.Framing.{Framing}
use Rattle.http_wire.specs.declared.refusal.WireRefusal.{WireRefusal}
use Rattle.http_wire.specs.declared.refusal.WireRefusal.TheVariants.{Memory, Head, HeadSize}
use Rattle.http_wire.specs.declared.request_limits.RequestLimits.{RequestLimits}

-- What an input begins with. A message, with its framing, whether `100 Continue` is due before its body,
-- and what follows it; a request that the wire refuses; the end of the input inside a body, that of a
-- PATCH that is applied when it is cut, with the bytes that came; the end anywhere else inside a message; or
-- the end between two. This speaks of bytes alone, and cites no code: what a wire gives of it (`Incoming`) leaves out
-- what follows a message and whether `100 Continue` is due.
pub data NextMessage : Type 0 where
  message : Request → Framing → Bool → List ℕ → NextMessage
  refused : WireRefusal → Framing → NextMessage
  cut_patch : Request → Framing → Bool → NextMessage
  cut_other : Bool → NextMessage
  clean_end : NextMessage

-- the method that a name stands for, which is compared by exact case
abbrev pub method_of : List ℕ → Method
method_of name =
    if bytes_eq name (codes "POST") then method.Post
    else (if bytes_eq name (codes "HEAD") then method.Head
    else (if bytes_eq name (codes "PATCH") then method.Patch
    else (if bytes_eq name (codes "GET") then method.Get
    else (if bytes_eq name (codes "DELETE") then method.Delete
    else (if bytes_eq name (codes "OPTIONS") then method.Options else method.Other)))))

-- the method that one X-HTTP-Method-Override names stands in place of the request's own, and two or more
-- name none (tus 1.0.0, Core Protocol, X-HTTP-Method-Override)
abbrev pub method_by : List ℕ → FieldText → Method
method_by name absent = method_of name
method_by name (one value) = method_of value
method_by name many = method.Other

-- the method of a head that is in force
abbrev pub method_in : RequestHead → Method
method_in h = method_by h.method (field_text (codes "x-http-method-override") h.fields)

-- the fields of a head that count for the steps
abbrev pub tus_fields : RequestHead → TusFields FieldText
tus_fields h = fields_by (λ name. field_text name h.fields)

-- which bytes of an upload a head asks for
abbrev pub range_in : RequestLimits → RequestHead → RangeAsked
range_in limits h = range_by limits (field_text (codes "range") h.fields) (field_text (codes "if-range") h.fields)

-- the request of a head with a body
abbrev pub request_of : RequestLimits → RequestHead → List ℕ → Request
request_of limits h body = record {
  method = method_in h;
  path = path_of h.target;
  fields = tus_fields h;
  range = range_in limits h;
  body = body;
  given = 0;
  more = 0;
}

-- the reply to a HEAD, by the request's own method, is bare; the connection closes after a request of
-- HTTP/1.0, and where it says so
abbrev pub framing_of : RequestHead → Framing
framing_of h = record {
  bare = is_head (method_of h.method);
  close = h.minor == 0 || closes (values_named (codes "connection") h.fields);
}

-- a refusal of the wire closes the connection
abbrev pub closing : Framing → Framing
closing framing = record framing { close = true }

-- the framing of a refusal by a head that is not known
abbrev pub unknown_framing : Framing
unknown_framing = record { bare = false; close = true }

-- the most bytes of the body of a head, by the method in force and by its checksum
abbrev pub limit_of : RequestLimits → RequestHead → ℕ
limit_of limits h = limit_by limits (method_in h) (tus_fields h).checksum

-- the length of the body of a head, or why it is refused
abbrev pub judged : RequestLimits → RequestHead → Result ℕ WireRefusal
judged limits h =
    judge (limit_of limits h) h.minor (field_text (codes "host") h.fields) (field_text (codes "transfer-encoding") h.fields)
    (field_text (codes "content-length") h.fields)

-- the request waits for `100 Continue` before it sends a body of n bytes
abbrev pub is_waiting : RequestHead → ℕ → Bool
is_waiting h n = h.minor == 1 && asks_to_continue (field_text (codes "expect") h.fields) && nat_lt 0 n

-- a head with a body of n bytes, of which the input has these
abbrev pub with_body : RequestLimits → RequestHead → ℕ → List ℕ → NextMessage
with_body limits h n rest =
    if nat_le n (length rest) then message (request_of limits h (take n rest)) (framing_of h) (is_waiting h n) (drop n rest)
    else (if is_applied_when_cut (method_in h) (tus_fields h).checksum then cut_patch (request_of limits h rest) (framing_of h) (is_waiting h n)
    else cut_other (is_waiting h n))

-- a head whose fields were judged, with what follows it
abbrev pub judged_message : RequestLimits → RequestHead → Result ℕ WireRefusal → List ℕ → NextMessage
judged_message limits h (Err why) rest = refused why (closing (framing_of h))
judged_message limits h (Ok n) rest = with_body limits h n rest

-- a head text that was parsed, with what follows it
abbrev pub parsed_message : RequestLimits → Option RequestHead → List ℕ → NextMessage
parsed_message limits None rest = refused Head unknown_framing
parsed_message limits (Some h) rest = judged_message limits h (judged limits h) rest

-- the text as a whole is a request head of httparse's grammar with no more fields than a head may have, or it is none
abbrev pub Parses : List ℕ → Option RequestHead → Type 0
Parses text None = (h : RequestHead) → ReadsRequest text h [] → length h.fields ≤ field_limit → ⊥
Parses text (Some h) = ReadsRequest text h [] × (length h.fields ≤ field_limit)

-- A head and its body with at most so many bytes together always have room: there is room for 65,536 bytes
-- from the start, and a read asks for 16,384 of them.
abbrev pub sure_room : ℕ
sure_room = 49152

-- the body of a head with this text may need more memory: it has bytes, and more than there is room for
abbrev pub OutgrowsRoom : RequestLimits → List ℕ → RequestHead → Type 0
OutgrowsRoom limits text h = (n : ℕ) × (judged limits h ≡ Ok n) × (0 < n) × (sure_room < length text + n)

-- A head that was parsed is refused because there is no memory for its body. The head itself takes none.
abbrev pub LacksMemory : RequestLimits → List ℕ → Option RequestHead → NextMessage → Type 0
LacksMemory limits text None f = ⊥
LacksMemory limits text (Some h) f = OutgrowsRoom limits text h × (f ≡ refused Memory (closing (framing_of h)))

-- what a whole head text begins
abbrev pub BeginsWhole : RequestLimits → List ℕ → List ℕ → NextMessage → Type 0
BeginsWhole limits text rest f =
    (h : Option RequestHead) × Parses text h × ((f ≡ parsed_message limits h rest) ⊎ LacksMemory limits text h f)

-- what a head text begins
abbrev pub Begins : RequestLimits → HeadText → NextMessage → Type 0
Begins limits (whole text rest) f =
    MatchBool (has_many_lines text) (f ≡ refused HeadSize unknown_framing) (BeginsWhole limits text rest f)
Begins limits too_long f = f ≡ refused HeadSize unknown_framing
Begins limits cut f = f ≡ cut_other false
Begins limits nothing f = f ≡ clean_end

-- what an input begins with, where bodies have at most these lengths
abbrev pub IsNextMessage : RequestLimits → List ℕ → NextMessage → Type 0
IsNextMessage limits input f = Begins limits (head_text input) f
