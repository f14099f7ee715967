-- The fields of a parsed head: where the values of a name stand.
use Rattle.std.proofs.Common.{◌≡◌, ℕ, List, [], ◌∷◌, map, All, bytes_eq, refl, ap, inl, inr}
use Rattle.std.proofs.lemmas.Bool.{cases_Bool}
use Rattle.std.proofs.lemmas.List.Elements.{All-nil, All-cons, All-head, All-tail}
use Rattle.http_header.specs.Token.{lowercase}
use Rattle.httparse.specs.Grammar.{Field}
use Rattle.httparse.specs.Spans.{IsWithin, IsHeaderWithin, span_bytes, header_bytes, name_and_value}
use Rattle.httparse.specs.declared.spans.HeaderSpan.{HeaderSpan}
use Rattle.http_wire.specs.inside.HeadFields.{spans_named}
use Rattle.http_wire.specs.Fields.{values_named}

-- the values of a name lie where all headers lie
pub All-spans_named : (n : ℕ) (head name : List ℕ) (spans : List HeaderSpan) → All (IsHeaderWithin n) spans → All (IsWithin n) (spans_named head name spans)
All-spans_named n head name [] h = All-nil (IsWithin n)
All-spans_named n head name (s ∷ spans) h =
    let rest = All-spans_named n head name spans (All-tail (IsHeaderWithin n) s spans h) in
    elim (cases_Bool (bytes_eq (lowercase (span_bytes head s.name)) name)) [
      | inl t ↦ rw t (All-cons (IsWithin n) s.value (spans_named head name spans) (All-head (IsHeaderWithin n) s spans h).1 rest)
      | inr f ↦ rw f rest
    ]

-- the values of a name, read where they stand
pub map-spans_named : (head name : List ℕ) (spans : List HeaderSpan) (fields : List Field) → map (header_bytes head) spans ≡ map name_and_value fields
    → map (span_bytes head) (spans_named head name spans) ≡ values_named name fields
map-spans_named head name [] [] e = refl
map-spans_named head name [] (f ∷ fields) e = absurd cc
map-spans_named head name (s ∷ spans) [] e = absurd cc
map-spans_named head name (s ∷ spans) (f ∷ fields) e =
    let first : header_bytes head s ≡ name_and_value f = cc in
    let rest : map (header_bytes head) spans ≡ map name_and_value fields = cc in
    let more = map-spans_named head name spans fields rest in
    let same : span_bytes head s.name ≡ f.name = ap (λ (p : List ℕ × List ℕ). p.0) first in
    let value : span_bytes head s.value ≡ (name_and_value f).1 = ap (λ (p : List ℕ × List ℕ). p.1) first in
    elim (cases_Bool (bytes_eq (lowercase f.name) name)) [
      | inl t ↦ rw (same, t) (rw value (ap (λ l. (name_and_value f).1 ∷ l) more))
      | inr n ↦ rw (same, n) more
    ]
