-- What the wire asks of an input before a request in it is answered, in its order, and for which reason it refuses one.
use Rattle.std.specs.Prelude.{◌≡◌, ◌⊎◌, ℕ, Bool, true, List, [], ◌∷◌, codes, MatchBool, Option, Some, None, is_none, ⊤}
use Rattle.httparse.specs.Grammar.{RequestHead}
use Rattle.http_wire.specs.Fields.{field_text}
use Rattle.http_wire.specs.NextMessage.{NextMessage, message, refused, cut_patch, cut_other, clean_end, OutgrowsRoom, Parses, limit_of}
use Rattle.http_wire.specs.HeadText.{HeadText, whole, too_long, cut, nothing, has_many_lines}
use Rattle.http_wire.specs.Judge.{judge_tests}
use Rattle.http_wire.specs.Refusal.{word_of}
use Rattle.http_wire.specs.declared.refusal.WireRefusal.{WireRefusal}
use Rattle.http_wire.specs.declared.refusal.WireRefusal.TheVariants.{Memory, Head, HeadSize}
use Rattle.http_wire.specs.declared.request_limits.RequestLimits.{RequestLimits}

-- Questions one after another: a test, which holds or not, with its refusal; or whether memory is lacking, which may be so
-- where this holds, and nowhere else.
pub data Questions : Type 1 where
  done : Questions
  test : Bool → WireRefusal → Questions → Questions
  memory : Type 0 → Questions → Questions

-- the reason of the first that holds, or none where none does
abbrev pub IsReason : Questions → Option WireRefusal → Type 0
IsReason done why = why ≡ None
IsReason (test holds refusal later) why = MatchBool holds (why ≡ Some refusal) (IsReason later why)
IsReason (memory MayLack later) why = (MayLack × (why ≡ Some Memory)) ⊎ IsReason later why

-- the words of their refusals
abbrev pub words_of : Questions → List (List ℕ)
words_of done = []
words_of (test holds refusal later) = word_of refusal ∷ words_of later
words_of (memory MayLack later) = word_of Memory ∷ words_of later

-- these tests, and then these questions
abbrev pub tests_then : List (Bool × WireRefusal) → Questions → Questions
tests_then [] later = later
tests_then (t ∷ tests) later = test t.0 t.1 (tests_then tests later)

-- what is asked of a head that was parsed: what its fields are tested for, and is there memory for its body
abbrev pub head_questions : RequestLimits → List ℕ → Option RequestHead → Questions
head_questions limits text None = done
head_questions limits text (Some h) =
    let field = λ (name : List ℕ). field_text name h.fields in
    tests_then (judge_tests (limit_of limits h) h.minor (field (codes "host")) (field (codes "transfer-encoding")) (field (codes "content-length"))) (memory (OutgrowsRoom limits text h) done)

-- what is asked of an input with this head text, which was parsed as this: is it too long, is it no head, and then of the head
abbrev pub questions : RequestLimits → HeadText → Option RequestHead → Questions
questions limits (whole text rest) parsed = test (has_many_lines text) HeadSize (test (is_none parsed) Head (head_questions limits text parsed))
questions limits too_long parsed = test true HeadSize done
questions limits cut parsed = done
questions limits nothing parsed = done

-- a whole text was parsed as this
abbrev pub IsParsed : HeadText → Option RequestHead → Type 0
IsParsed (whole text rest) parsed = Parses text parsed
IsParsed too_long parsed = ⊤
IsParsed cut parsed = ⊤
IsParsed nothing parsed = ⊤

-- why an input is refused that begins with this
abbrev pub refusal_in : NextMessage → Option WireRefusal
refusal_in (message request framing waiting rest) = None
refusal_in (refused why framing) = Some why
refusal_in (cut_patch request framing waiting) = None
refusal_in (cut_other waiting) = None
refusal_in clean_end = None
