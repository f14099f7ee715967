-- The fields of a head that count: their names, and where they stand.
use Rattle.std.specs.Prelude.{◌≡◌, ◌≤◌, ℕ, Bool, ◌&&◌, ◌==◌, List, [], ◌∷◌, Option, Some, None, if◌then◌else◌, bytes_eq, codes, map}
use Rattle.http_header.specs.HeaderMap.{Entries, get, set_first}
use Rattle.http_header.specs.Token.{lowercase}
use Rattle.httparse.specs.Spans.{span_bytes}
use Rattle.httparse.specs.declared.spans.Span.{Span}
use Rattle.httparse.specs.declared.spans.HeaderSpan.{HeaderSpan}
use Rattle.httparse.specs.Grammar.{Field}
use Rattle.tus_steps.specs.TusFields.{EachField, fields_by, map_fields}
use Rattle.http_wire.specs.ConnectionFields.{closes, has_close}
use Rattle.http_wire.specs.Fields.{field_text, values_named}
use Rattle.http_wire.specs.Layout.{IsInside, field_at}
use Rattle.http_wire.specs.declared.read.fields.FieldSpan.{FieldSpan}
use Rattle.http_wire.specs.declared.read.fields.FieldSpan.TheVariants.{Absent, One, Many}
use Rattle.http_wire.specs.declared.read.fields.Found.{Found}
use Rattle.http_wire.specs.declared.read.fields.HeadFields.{HeadFields}

-- the names of the fields that count, in lower case: for the framing of a message, its method, its connection and its range, and for the steps
abbrev pub counted : List (List ℕ)
counted =
    codes "host"
    ∷ codes "expect"
    ∷ codes "content-length"
    ∷ codes "transfer-encoding"
    ∷ codes "x-http-method-override"
    ∷ codes "connection"
    ∷ codes "range"
    ∷ codes "if-range"
    ∷ codes "tus-resumable"
    ∷ codes "upload-length"
    ∷ codes "upload-defer-length"
    ∷ codes "upload-offset"
    ∷ codes "upload-metadata"
    ∷ codes "upload-concat"
    ∷ codes "upload-checksum"
    ∷ codes "content-type"
    ∷ []

-- where the values of that name stand in a head whose fields stand in these places
abbrev pub spans_named : List ℕ → List ℕ → List HeaderSpan → List Span
spans_named head name [] = []
spans_named head name (h ∷ spans) =
    if bytes_eq (lowercase (span_bytes head h.name)) name then h.value ∷ spans_named head name spans else spans_named head name spans

-- the place of the one value of a name, if there is one
abbrev pub place_in : List Span → FieldSpan
place_in [] = Absent
place_in (value ∷ []) = One value
place_in (value ∷ other ∷ values) = Many

-- with one more value of a name
abbrev pub added : FieldSpan → Span → FieldSpan
added Absent value = One value
added (One other) value = Many
added Many value = Many

-- what a head has by these places of each name, and by whether its connection closes
abbrev pub fields_from : (List ℕ → FieldSpan) → Bool → HeadFields
fields_from at close = record {
  host = at (codes "host");
  expect = at (codes "expect");
  length = at (codes "content-length");
  coding = at (codes "transfer-encoding");
  instead = at (codes "x-http-method-override");
  range = at (codes "range");
  condition = at (codes "if-range");
  has_close = close;
  tus = fields_by at;
}

-- this is a Connection field with the token `close`
abbrev pub closes_by : List ℕ → HeaderSpan → Bool
closes_by head h = bytes_eq (lowercase (span_bytes head h.name)) (codes "connection") && has_close (span_bytes head h.value)

-- what a head has whose fields stand in these places
abbrev pub head_fields : List ℕ → List HeaderSpan → HeadFields
head_fields head spans =
    fields_from (λ name. place_in (spans_named head name spans)) (closes (map (span_bytes head) (spans_named head (codes "connection") spans)))

-- nothing in any head
abbrev pub never : Found
never = record { number = 0; place = Absent }

-- what was found in this head
abbrev pub found_in : ℕ → Found → FieldSpan
found_in number f = if f.number == number then f.place else Absent

-- with one more value in this head
abbrev pub with_value : ℕ → Span → Found → Found
with_value number value f = record { number = number; place = added (found_in number f) value }

-- a map that has each of these names once, with what was found under it
abbrev pub map_by : (List ℕ → Found) → List (List ℕ) → Entries Found
map_by at names = map (λ name. (name, at name ∷ [])) names

-- the same of the names that count
abbrev pub found_by : (List ℕ → Found) → Entries Found
found_by at = map_by at counted

-- the map with g of what was found under a name, if it has the name
abbrev pub changed_at : (Found → Found) → Entries Found → List ℕ → Option Found → Entries Found
changed_at g m name None = m
changed_at g m name (Some f) = set_first m name (g f)

abbrev pub changed : (Found → Found) → Entries Found → List ℕ → Entries Found
changed g m name = changed_at g m name (get m name)

-- The map has each name that counts, and nothing was found in a later head than this.
pub record IsFieldMap (heads : ℕ) (m : Entries Found) : Type 0 where
  pub at : List ℕ → Found
  pub map : m ≡ found_by at
  pub within : (name : List ℕ) → (at name).number ≤ heads

-- The same, and it shows where the values of each name stand in the head of this number, whose fields stand in these places.
pub record Shows (number : ℕ) (head : List ℕ) (spans : List HeaderSpan) (m : Entries Found) : Type 0 where
  pub at : List ℕ → Found
  pub map : m ≡ found_by at
  pub within : (name : List ℕ) → (at name).number ≤ number
  pub places : (name : List ℕ) → found_in number (at name) ≡ place_in (spans_named head name spans)

-- all that was found lies in the first n bytes
pub record AreInside (n : ℕ) (f : HeadFields) : Type 0 where
  pub host : IsInside n f.host
  pub length : IsInside n f.length
  pub coding : IsInside n f.coding
  pub expect : IsInside n f.expect
  pub instead : IsInside n f.instead
  pub range : IsInside n f.range
  pub condition : IsInside n f.condition
  pub tus : EachField (IsInside n) f.tus

-- what was found in a head is what its fields have
pub record ShowFields (head : List ℕ) (f : HeadFields) (fields : List Field) : Type 0 where
  pub host : field_at head f.host ≡ field_text (codes "host") fields
  pub length : field_at head f.length ≡ field_text (codes "content-length") fields
  pub coding : field_at head f.coding ≡ field_text (codes "transfer-encoding") fields
  pub expect : field_at head f.expect ≡ field_text (codes "expect") fields
  pub instead : field_at head f.instead ≡ field_text (codes "x-http-method-override") fields
  pub range : field_at head f.range ≡ field_text (codes "range") fields
  pub condition : field_at head f.condition ≡ field_text (codes "if-range") fields
  pub close : f.has_close ≡ closes (values_named (codes "connection") fields)
  pub tus : map_fields (field_at head) f.tus ≡ fields_by (λ name. field_text name fields)
