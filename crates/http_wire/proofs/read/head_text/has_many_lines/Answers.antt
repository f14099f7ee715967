use Rattle.std.proofs.Common.{◌≡◌, ℕ, suc, List, length, nat_lt, Option, None, Some, option_map, refl, sym, ap, ◌∙◌, inl, inr, arith, le-leb}
use Rattle.std.specs.Prelude.{is_some, slice_get}
use Rattle.std.proofs.lemmas.Bool.{cases_lt, lt-leb}
use Rattle.std.proofs.lemmas.Iterator.Consumers.{YieldsList-from_first, nth_from_yields_List}
use Rattle.std.proofs.lemmas.Option.{slice_get_past, slice_get-get_or}
use Rattle.memchr.specs.Find.{is_byte, places}
use Rattle.memchr.proofs.lemmas.CallerLemmas.{length-places}
use Rattle.http_wire.proofs.read.head_text.has_many_lines.Goals as goal

is_some-same : (r : Option ℕ) → is_some (option_map (λ n. n) r) ≡ is_some r
is_some-same None = refl
is_some-same (Some n) = refl

-- an element stands at a place that is within the list
is_some-slice_get : (xs : List ℕ) (n : ℕ) → is_some (slice_get xs n) ≡ nat_lt n (length xs)
is_some-slice_get xs n =
    elim (cases_lt n (length xs)) [
      | inl lt ↦ ap is_some (slice_get-get_or xs n 0 lt) ∙ sym (le-leb (suc n) (length xs) (omega (arith, lt)))
      | inr ge ↦ ap is_some (slice_get_past xs n ge) ∙ sym (lt-leb (suc n) (length xs) (omega (arith, ge)))
    ]

pub returns : goal.returns
returns c =
    let lines = places (is_byte 10) c.args.head.now in
    let found = nth_from_yields_List c.nth.result c.nth.new.self 66 c.nth.ensures.ran (YieldsList-from_first (λ n. n) (λ rest. rest) lines c.memchr_iter.ensures.value) in
    c.is_some.ensures ∙ sym (is_some-same c.nth.result) ∙ ap is_some found ∙ is_some-slice_get lines 66 ∙ ap (nat_lt 66) (length-places (is_byte 10) c.args.head.now)
