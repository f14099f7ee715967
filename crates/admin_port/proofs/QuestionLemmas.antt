-- What a head asks for whose places were found.
use Rattle.std.proofs.Common.{◌≡◌, ◌≤◌, ℕ, Bool, not, ◌&&◌, ◌||◌, List, [], ◌∷◌, length, map, take, drop, Some, Result, Ok, refl, ap, ap₂, subst, inl, arith, length-take}
use Rattle.std.proofs.lemmas.List.{length-map}
use Rattle.std.specs.List.{list_any}
use Rattle.httparse.specs.Grammar.{Field}
use Rattle.httparse.specs.Outcome.{IfComplete}
use Rattle.httparse.specs.Spans.{IsRequestOf, IsRequestWithin, header_bytes, name_and_value, span_bytes}
use Rattle.httparse.specs.declared.Error.{Error}
use Rattle.httparse.specs.declared.Status.{Status}
use Rattle.httparse.specs.declared.Status.TheVariants.{Complete}
use Rattle.httparse.specs.declared.spans.HeaderSpan.{HeaderSpan}
use Rattle.httparse.specs.declared.spans.RequestSpans.{RequestSpans}
use Rattle.admin_port.specs.declared.question.Question.{Question}
use Rattle.admin_port.specs.Question.{Asks, asked_by, field_limit, has_origin, is_origin}

-- some name that stands at these places is that of a field which tells of a page
abbrev pub origin_at : List ℕ → List HeaderSpan → Bool
origin_at bytes spans = list_any (λ s. is_origin (span_bytes bytes s.name)) spans

origin_at-fields : (bytes : List ℕ) (spans : List HeaderSpan) (fields : List Field) → map (header_bytes bytes) spans ≡ map name_and_value fields
    → origin_at bytes spans ≡ has_origin fields
origin_at-fields bytes [] [] e = refl
origin_at-fields bytes [] (f ∷ fields) e = absurd cc
origin_at-fields bytes (s ∷ spans) [] e = absurd cc
origin_at-fields bytes (s ∷ spans) (f ∷ fields) e =
    let first : header_bytes bytes s ≡ name_and_value f = cc in
    let rest : map (header_bytes bytes) spans ≡ map name_and_value fields = cc in
    ap₂ (λ (a b : Bool). a || b) (ap (λ (p : List ℕ × List ℕ). is_origin p.0) first) (origin_at-fields bytes spans fields rest)

few : (bytes : List ℕ) (spans : List HeaderSpan) (count : ℕ) (fields : List Field) → count ≤ length spans
    → map (header_bytes bytes) (take count spans) ≡ map name_and_value fields → length fields ≤ length spans
few bytes spans count fields fits e =
    let counts = simp (length-map, length-take) at (ap length e) in
    omega (arith, counts, fits)

pub asks-head : (bytes : List ℕ) (is_near : Bool) (spans : List HeaderSpan) (read : Result (Status RequestSpans) Error) (line : RequestSpans)
    (question : Question)
    → read ≡ Ok (Complete line) → length spans ≡ field_limit → IfComplete read (IsRequestWithin bytes spans) → IfComplete read (IsRequestOf bytes spans)
    → question ≡ asked_by (span_bytes bytes line.method) (span_bytes bytes line.path) (is_near && not (origin_at bytes (take line.headers spans)))
    → Asks is_near bytes (Some question)
asks-head bytes is_near spans read line question is room within complete told =
    let inside = subst (λ r. IfComplete r (IsRequestWithin bytes spans)) is within in
    let found = subst (λ r. IfComplete r (IsRequestOf bytes spans)) is complete in
    let some = few bytes spans line.headers found.0.fields inside.section.count_fits found.1.fields in
    inl (
      found.0,
      drop line.len bytes,
      found.1.reads,
      rw room at some,
      rw (found.1.method, found.1.path, origin_at-fields bytes (take line.headers spans) found.0.fields found.1.fields) at told,
    )
