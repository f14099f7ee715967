-- Where a message stands in its bytes: the layout of its head and its body, and the request that is read by it.
use Rattle.std.specs.Prelude.{ℕ, List, ◌≡◌, take, drop, ◌≤◌, length}
use Rattle.httparse.specs.Spans.{span_bytes, IsWithin}
use Rattle.httparse.specs.declared.spans.Span.{Span}
use Rattle.tus_steps.specs.Field.{FieldText, absent, one, many}
use Rattle.http_wire.specs.declared.read.fields.FieldSpan.{FieldSpan}
use Rattle.http_wire.specs.declared.read.fields.FieldSpan.TheVariants.{Absent, One, Many}
use Rattle.tus_text.specs.Path.{path_of}
use Rattle.tus_steps.specs.InPieces.{fields_behind, method_behind, path_behind}
use Rattle.tus_steps.specs.Request.{Request}
use Rattle.tus_steps.specs.TusFields.{EachField, map_fields}
use Rattle.http_wire.specs.Incoming.{FramedRequest}
use Rattle.http_wire.specs.declared.read.layout.Layout.{Layout}

-- what a request has under a name whose value stands in this place of a head
abbrev pub field_at : List ℕ → FieldSpan → FieldText
field_at head Absent = absent
field_at head (One span) = one (span_bytes head span)
field_at head Many = many

-- the place of one field, or an empty one
abbrev pub place_of : FieldSpan → Span
place_of Absent = record { start = 0; end = 0 }
place_of (One span) = span
place_of Many = record { start = 0; end = 0 }

-- the place lies in the first n bytes
abbrev pub IsInside : ℕ → FieldSpan → Type 0
IsInside n f = IsWithin n (place_of f)

-- the target and the fields lie in the head, and the body follows it
pub record IsLayoutWithin (n : ℕ) (p : Layout) : Type 0 where
  pub head : p.head_len ≡ n
  pub target : IsWithin n p.target
  pub fields : EachField (IsInside n) p.fields

-- the request of a message with this layout, or of a piece of one
abbrev pub request_at : Layout → List ℕ → Request
request_at p text =
    let head = take p.head_len text in
    record {
      method = method_behind p.created p.method;
      path = path_behind p.created (path_of (span_bytes head p.target));
      fields = fields_behind p.created (map_fields (field_at head) p.fields);
      range = p.range;
      body = drop p.head_len text;
      given = p.given;
      more = p.more;
    }

-- the target of that request, as it was sent
abbrev pub target_at : Layout → List ℕ → List ℕ
target_at p text = span_bytes (take p.head_len text) p.target

-- the request with its framing
abbrev pub framed_at : List ℕ → Layout → FramedRequest
framed_at text p = record { request = request_at p text; framing = p.framing }

-- the bytes have the head of a message of this layout, which lies in it
pub record IsMessage (p : Layout) (text : List ℕ) : Type 0 where
  pub head : p.head_len ≤ length text
  pub within : IsLayoutWithin p.head_len p
