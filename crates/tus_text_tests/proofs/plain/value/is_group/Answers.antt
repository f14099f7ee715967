use Rattle.std.proofs.Common.{◌≡◌, ◌<◌, ◌∙◌, not, refl, ap, below_more, slice_index, arith}
use Rattle.std.proofs.lemmas.Bool.{false≢true}
use Rattle.tus_text_tests.proofs.PlainGroupLemmas.{value_of, group-from_symbols, symbols-from_group, from_none, from_some}
use Rattle.tus_text_tests.proofs.plain.value.is_group.Goals as goal

pub returns-then-is_none : goal.returns-then-is_none
returns-then-is_none c =
    let place = c.loop-place.place in
    let none : value_of (slice_index c.args.group.now place) ≡ 255 = from_none _ c.symbol_value.ensures.none (c.is_none.ensures ∙ ap not c.if-is_none.true) in (
      λ bad. absurd (false≢true bad),
      λ e.
          let symbol : value_of (slice_index c.args.group.now place) < 64 = symbols-from_group c.args.group.now e.0 e.1 e.2 e.3 place (omega arith) in
          absurd (omega arith),
    )

pub loop-place-preserved : goal.loop-place-preserved
loop-place-preserved c =
    below_more _ _ c.loop-place.invariant (from_some (slice_index c.args.group.now c.loop-place.place) _ c.symbol_value.ensures.some (c.is_none.ensures ∙ ap not c.if-is_none.false))

pub returns : goal.returns
returns c =
    (λ is. group-from_symbols c.args.group.now (λ i. let fits = c.type_inv.group i in omega arith) c.requires (λ k below. c.loop-place.invariant k (omega arith)), λ e. refl)
