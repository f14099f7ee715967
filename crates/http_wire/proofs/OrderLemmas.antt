-- The wire refuses for the first of its questions that holds.
use Rattle.std.proofs.Common.{◌≡◌, ◌⊎◌, ℕ, Bool, true, false, not, nat_le, nat_lt, if◌then◌else◌, List, [], ◌∷◌, length, Option, None, Some, is_none, unwrap_or, Result, Ok, Err, refl, sym, ap, ◌∙◌, subst, inl, inr}
use Rattle.std.specs.Bool.{MatchBool}
use Rattle.std.specs.Prelude.{codes}
use Rattle.std.specs.Result.{result_err}
use Rattle.httparse.specs.Grammar.{RequestHead}
use Rattle.upload_book.specs.laws.Order.{order, stand_in}
use Rattle.upload_book.specs.Refusal.{first_that_holds}
use Rattle.tus_steps.specs.Field.{FieldText, is_absent}
use Rattle.tus_steps.specs.Method.{is_applied_when_cut}
use Rattle.tus_steps.specs.Request.{Request}
use Rattle.http_wire.specs.Fields.{field_text}
use Rattle.http_wire.specs.NextMessage.{NextMessage, message, refused, cut_patch, cut_other, clean_end, Begins, BeginsWhole, LacksMemory, Parses, OutgrowsRoom, closing, framing_of, is_waiting, judged, limit_of, judged_message, method_in, parsed_message, tus_fields, unknown_framing, with_body}
use Rattle.http_wire.specs.HeadText.{HeadText, whole, too_long, cut, nothing, has_many_lines}
use Rattle.http_wire.specs.Judge.{body_len, is_host_wrong, judge, judge_tests, sized}
use Rattle.http_wire.specs.Laws.{WireFollowsOrder}
use Rattle.http_wire.specs.Questions.{IsParsed, IsReason, Questions, done, head_questions, memory, questions, refusal_in, tests_then, words_of}
use Rattle.http_wire.specs.declared.framing.Framing.{Framing}
use Rattle.http_wire.specs.declared.refusal.WireRefusal.{WireRefusal}
use Rattle.http_wire.specs.declared.refusal.WireRefusal.TheVariants.{Coding, ContentLength, BodySize, Head, HeadSize, Host, Memory}
use Rattle.http_wire.proofs.LawsLemmas.{Parses-unique}
use Rattle.http_wire.specs.declared.request_limits.RequestLimits.{RequestLimits}

-- the reason of tests, or of what is asked after them
abbrev After : Option WireRefusal → Questions → Option WireRefusal → Type 0
After (Some refusal) later why = why ≡ Some refusal
After None later why = IsReason later why

tests-first : (tests : List (Bool × WireRefusal)) (later : Questions) (why : Option WireRefusal) → IsReason (tests_then tests later) why → After (first_that_holds tests) later why
tests-first [] later why q = q
tests-first ((true, refusal) ∷ tests) later why q = q
tests-first ((false, refusal) ∷ tests) later why q = tests-first tests later why q

first-tests : (tests : List (Bool × WireRefusal)) (later : Questions) (why : Option WireRefusal) → After (first_that_holds tests) later why → IsReason (tests_then tests later) why
first-tests [] later why q = q
first-tests ((true, refusal) ∷ tests) later why q = q
first-tests ((false, refusal) ∷ tests) later why q = first-tests tests later why q

-- a length is refused by the first of its two tests
sized-first : (max : ℕ) (len : Option ℕ) → result_err (sized max len) ≡ first_that_holds ((is_none len, ContentLength) ∷ (nat_lt max (unwrap_or len 0), BodySize) ∷ [])
sized-first max None = refl
sized-first max (Some n) = by (nat_lt max n)
  where
    by : (long : Bool) → result_err {T = ℕ} {E = WireRefusal} (if long then Err BodySize else Ok n) ≡ first_that_holds {R = WireRefusal} ((long, BodySize) ∷ [])
    by true = refl
    by false = refl

-- a request is refused by its fields for the first of their tests
judge-first : (max minor : ℕ) (host coding len : FieldText) → result_err (judge max minor host coding len) ≡ first_that_holds (judge_tests max minor host coding len)
judge-first max minor host coding len = by (is_host_wrong minor host) (is_absent coding)
  where
    by : (wrong none : Bool) → result_err {T = ℕ} {E = WireRefusal} (if wrong then Err Host else (if none then sized max (body_len len) else Err Coding))
        ≡ first_that_holds {R = WireRefusal} ((wrong, Host) ∷ (not none, Coding) ∷ (is_none (body_len len), ContentLength) ∷ (nat_lt max (unwrap_or (body_len len) 0), BodySize) ∷ [])
    by true none = refl
    by false false = refl
    by false true = sized-first max (body_len len)

judged_tests : RequestLimits → RequestHead → List (Bool × WireRefusal)
judged_tests limits h =
    let field = λ (name : List ℕ). field_text name h.fields in
    judge_tests (limit_of limits h) h.minor (field (codes "host")) (field (codes "transfer-encoding")) (field (codes "content-length"))

judged-first : (limits : RequestLimits) (h : RequestHead) → result_err (judged limits h) ≡ first_that_holds (judged_tests limits h)
unfolding judged_tests
judged-first limits h =
    let field = λ (name : List ℕ). field_text name h.fields in
    judge-first (limit_of limits h) h.minor (field (codes "host")) (field (codes "transfer-encoding")) (field (codes "content-length"))

-- a head with its body is not refused
unrefused : (limits : RequestLimits) (h : RequestHead) (n : ℕ) (rest : List ℕ) → refusal_in (with_body limits h n rest) ≡ None
unrefused limits h n rest = by (nat_le n (length rest)) (is_applied_when_cut (method_in h) (tus_fields h).checksum) _ _ _ _
  where
    by : (all patch : Bool) (more : List ℕ) (request cut_request : Request) (framing : Framing)
        → refusal_in (if all then message request framing (is_waiting h n) more else (if patch then cut_patch cut_request framing (is_waiting h n) else cut_other (is_waiting h n))) ≡ None
    by true patch more request cut_request framing = refl
    by false true more request cut_request framing = refl
    by false false more request cut_request framing = refl

-- an input with this text begins so, and is refused for this reason
abbrev BeginsFor : RequestLimits → HeadText → Option WireRefusal → Type 0
BeginsFor limits t why = (f : NextMessage) × Begins limits t f × (refusal_in f ≡ why)

abbrev BeginsWholeFor : RequestLimits → List ℕ → List ℕ → Option WireRefusal → Type 0
BeginsWholeFor limits text rest why = (f : NextMessage) × BeginsWhole limits text rest f × (refusal_in f ≡ why)

module _ (limits : RequestLimits) (text rest : List ℕ) (why : Option WireRefusal) where
  -- a head whose fields are tested
  judged-begins : (h : RequestHead) (r : Result ℕ WireRefusal) → judged limits h ≡ r → Parses text (Some h) → After (result_err r) (memory (OutgrowsRoom limits text h) done) why → BeginsWholeFor limits text rest why
  judged-begins h (Err refusal) is parses q = (judged_message limits h (Err refusal) rest, (Some h, parses, inl (ap (λ r. judged_message limits h r rest) (sym is))), sym q)
  judged-begins h (Ok n) is parses (inl lacks) = (refused Memory (closing (framing_of h)), (Some h, parses, inr (lacks.0, refl)), sym lacks.1)
  judged-begins h (Ok n) is parses (inr none) = (with_body limits h n rest, (Some h, parses, inl (ap (λ r. judged_message limits h r rest) (sym is))), unrefused limits h n rest ∙ sym none)

  head-begins : (parsed : Option RequestHead) → Parses text parsed → MatchBool (is_none parsed) (why ≡ Some Head) (IsReason (head_questions limits text parsed) why) → BeginsWholeFor limits text rest why
  unfolding judged_tests
  head-begins None parses q = (refused Head unknown_framing, (None, parses, inl refl), sym q)
  head-begins (Some h) parses q =
      let later = memory (OutgrowsRoom limits text h) done in
      judged-begins h (judged limits h) refl parses (subst (λ o. After o later why) (sym (judged-first limits h)) (tests-first (judged_tests limits h) later why q))

  whole-begins : (many : Bool) (parsed : Option RequestHead) → Parses text parsed
      → MatchBool many (why ≡ Some HeadSize) (MatchBool (is_none parsed) (why ≡ Some Head) (IsReason (head_questions limits text parsed) why))
      → (f : NextMessage) × MatchBool many (f ≡ refused HeadSize unknown_framing) (BeginsWhole limits text rest f) × (refusal_in f ≡ why)
  whole-begins true parsed parses q = (refused HeadSize unknown_framing, refl, sym q)
  whole-begins false parsed parses q = head-begins parsed parses q

begins : (limits : RequestLimits) (t : HeadText) (parsed : Option RequestHead) (why : Option WireRefusal) → IsParsed t parsed → IsReason (questions limits t parsed) why → BeginsFor limits t why
begins limits (whole text rest) parsed why parses q = whole-begins limits text rest why (has_many_lines text) parsed parses q
begins limits too_long parsed why parses q = (refused HeadSize unknown_framing, refl, sym q)
begins limits cut parsed why parses q = (cut_other false, refl, sym q)
begins limits nothing parsed why parses q = (clean_end, refl, sym q)

module _ (limits : RequestLimits) (text rest : List ℕ) (f : NextMessage) where
  -- a head whose fields were judged
  judged-reason : (h : RequestHead) (r : Result ℕ WireRefusal) → f ≡ judged_message limits h r rest → After (result_err r) (memory (OutgrowsRoom limits text h) done) (refusal_in f)
  judged-reason h (Err refusal) same = ap refusal_in same
  judged-reason h (Ok n) same = inr (ap refusal_in same ∙ unrefused limits h n rest)

  later-reason : (h : RequestHead) → After (result_err (judged limits h)) (memory (OutgrowsRoom limits text h) done) (refusal_in f) → IsReason (head_questions limits text (Some h)) (refusal_in f)
  unfolding judged_tests
  later-reason h q =
      let later = memory (OutgrowsRoom limits text h) done in
      first-tests (judged_tests limits h) later (refusal_in f) (subst (λ o. After o later (refusal_in f)) (judged-first limits h) q)

  head-reason : (parsed : Option RequestHead) → (f ≡ parsed_message limits parsed rest) ⊎ LacksMemory limits text parsed f
      → MatchBool (is_none parsed) (refusal_in f ≡ Some Head) (IsReason (head_questions limits text parsed) (refusal_in f))
  head-reason None (inl same) = ap refusal_in same
  head-reason None (inr lacks) = absurd lacks
  head-reason (Some h) (inl same) = later-reason h (judged-reason h (judged limits h) same)
  head-reason (Some h) (inr (outgrows, same)) =
      let none = ap (result_err {T = ℕ} {E = WireRefusal}) outgrows.1 in
      later-reason h (subst (λ o. After o (memory (OutgrowsRoom limits text h) done) (refusal_in f)) (sym none) (inl (outgrows, ap refusal_in same)))

  whole-reason : (many : Bool) (parsed : Option RequestHead) → Parses text parsed → MatchBool many (f ≡ refused HeadSize unknown_framing) (BeginsWhole limits text rest f)
      → MatchBool many (refusal_in f ≡ Some HeadSize) (MatchBool (is_none parsed) (refusal_in f ≡ Some Head) (IsReason (head_questions limits text parsed) (refusal_in f)))
  whole-reason true parsed parses same = ap refusal_in same
  whole-reason false parsed parses w =
      subst (λ (p : Option RequestHead). MatchBool (is_none p) (refusal_in f ≡ Some Head) (IsReason (head_questions limits text p) (refusal_in f))) (Parses-unique text w.0 parsed w.1 parses) (head-reason w.0 w.2)

reason : (limits : RequestLimits) (t : HeadText) (parsed : Option RequestHead) (f : NextMessage) → IsParsed t parsed → Begins limits t f → IsReason (questions limits t parsed) (refusal_in f)
reason limits (whole text rest) parsed f parses b = whole-reason limits text rest f (has_many_lines text) parsed parses b
reason limits too_long parsed f parses b = ap refusal_in b
reason limits cut parsed f parses b = ap refusal_in b
reason limits nothing parsed f parses b = ap refusal_in b

-- the words of all questions stand in the order
order_stands : (limits : RequestLimits) (t : HeadText) (parsed : Option RequestHead) → stand_in (words_of (questions limits t parsed)) order ≡ true
order_stands limits (whole text rest) None = refl
order_stands limits (whole text rest) (Some h) = refl
order_stands limits too_long parsed = refl
order_stands limits cut parsed = refl
order_stands limits nothing parsed = refl

pub wire_follows_order : WireFollowsOrder
wire_follows_order = record {
  first = λ limits t parsed why parses. (begins limits t parsed why parses, λ b. subst (IsReason (questions limits t parsed)) b.2 (reason limits t parsed b.0 parses b.1));
  order = order_stands;
}
