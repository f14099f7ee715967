use Rattle.std.proofs.Common.{◌≡◌, [], length, refl, sym, ◌∙◌, arith}
use Rattle.std.proofs.lemmas.Bool.{false≢true}
use Rattle.std.proofs.lemmas.Bool.Decides.{nat_tests}
use Rattle.std.proofs.lemmas.List.{nil_from_length}
use Rattle.base64.specs.Engines.{standard}
use Rattle.base64.proofs.EngineFacts.{encode_of-nil}
use Rattle.tus_text_tests.proofs.PlainValueLemmas.{cut-encoded, only-group, first-group, groups-of}
use Rattle.tus_text_tests.proofs.plain.value.+is_base64.Goals as goal

pub returns-then-is_empty : goal.returns-then-is_empty
returns-then-is_empty t c =
    let none = nil_from_length c.args.text.now (grind (arith, nat_tests)) in
    (λ is. ([], λ i. omega arith, none ∙ sym (encode_of-nil standard)), λ e. refl)

pub returns-in_default : goal.returns-in_default
returns-in_default t c =
    let some : length c.args.text.now ≡ 0 → ⊥ = grind (arith, nat_tests) in
    (λ bad. absurd (false≢true bad), λ e. absurd (omega (arith, c.in_default.ensures.cases, (cut-encoded c.args.text.now some e).long)))

pub returns-then-is_empty-2 : goal.returns-then-is_empty-2
returns-then-is_empty-2 t c =
    let some : length c.args.text.now ≡ 0 → ⊥ = grind (arith, nat_tests) in
    let none : length c.in-Some.rest.now ≡ 0 = grind (arith, nat_tests) in
    let cut = c.in-Some.ensures.cases in
    let same = only-group c.args.text.now c.in-Some.group.now c.in-Some.rest.now some cut.1 cut.2 none in
    (λ is. same.0 (c.is_last_group.ensures.0 is), λ e. c.is_last_group.ensures.1 (same.1 e))

pub returns-then-is_group : goal.returns-then-is_group
returns-then-is_group t c =
    let some : length c.args.text.now ≡ 0 → ⊥ = grind (arith, nat_tests) in
    let more : length c.in-Some.rest.now ≡ 0 → ⊥ = grind (arith, nat_tests) in
    let cut = c.in-Some.ensures.cases in (
      λ is. first-group c.args.text.now c.in-Some.group.now c.in-Some.rest.now cut.1 cut.2 (c.is_group.ensures.0 c.if-is_group.true) (c.is_base64.ensures.0 is),
      λ e. c.is_base64.ensures.1 (groups-of c.args.text.now c.in-Some.group.now c.in-Some.rest.now some cut.1 cut.2 more e).1,
    )

pub returns-else-is_group : goal.returns-else-is_group
returns-else-is_group t c =
    let some : length c.args.text.now ≡ 0 → ⊥ = grind (arith, nat_tests) in
    let more : length c.in-Some.rest.now ≡ 0 → ⊥ = grind (arith, nat_tests) in
    let cut = c.in-Some.ensures.cases in (
      λ is. absurd (false≢true (sym c.if-is_group.false ∙ is)),
      λ e. c.is_group.ensures.1 (groups-of c.args.text.now c.in-Some.group.now c.in-Some.rest.now some cut.1 cut.2 more e).0,
    )
