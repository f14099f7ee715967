use Rattle.std.proofs.Common.{◌≡◌, ◌<◌, ◌%◌, ◌∙◌, not, false, inl, inr, ap, sym, slice_index, arith, eq-eqb}
use Rattle.std.proofs.lemmas.Bool.{false≢true, eqb-true}
use Rattle.tus_text_tests.proofs.PlainGroupLemmas.{value_of, last-tells, from_none, from_some, is_some-value, padding-value}
use Rattle.tus_text_tests.proofs.plain.value.is_last_group.Goals as goal

pub returns-then-is_none : goal.returns-then-is_none
returns-then-is_none c =
    let group = c.args.group.now in
    let none : value_of (slice_index group 0) ≡ 255 = from_none _ c.symbol_value.ensures.none (c.is_none.ensures ∙ ap not c.if-is_none.true) in
    last-tells group false (λ i. let fits = c.type_inv.group i in omega arith) c.requires
    (λ bad. absurd (false≢true bad)) (λ last. absurd (omega (arith, last.0)))

pub returns-in_default : goal.returns-in_default
returns-in_default c =
    let group = c.args.group.now in
    let none : value_of (slice_index group 1) ≡ 255 = c.in_default.ensures.none in
    last-tells group false (λ i. let fits = c.type_inv.group i in omega arith) c.requires
    (λ bad. absurd (false≢true bad)) (λ last. absurd (omega (arith, last.1)))

pub returns-then-group-eq61-2 : goal.returns-then-group-eq61-2
returns-then-group-eq61-2 c =
    let group = c.args.group.now in
    let first : value_of (slice_index group 0) < 64 = from_some (slice_index group 0) _ c.symbol_value.ensures.some (c.is_none.ensures ∙ ap not c.if-is_none.false) in
    let second = c.in-Some.ensures.some in
    let padding = padding-value (slice_index group 2) c.if-group-eq61.true in
    last-tells group _ (λ i. let fits = c.type_inv.group i in omega arith) c.requires
    (λ is.
    let none = eqb-true _ _ is in
    (first, omega arith, inl (c.if-group-eq61.true, c.if-group-eq61-2.true, ap (λ n. n % 16) (sym second.1) ∙ none)))
    (λ last. elim last.2 [
      | inl two ↦ eq-eqb _ _ (ap (λ n. n % 16) second.1 ∙ two.2)
      | inr more ↦ absurd (omega (arith, more.0))
    ])

pub returns-else-group-eq61-2 : goal.returns-else-group-eq61-2
returns-else-group-eq61-2 c =
    let group = c.args.group.now in
    let padding = padding-value (slice_index group 2) c.if-group-eq61.true in
    last-tells group _ (λ i. let fits = c.type_inv.group i in omega arith) c.requires
    (λ is. absurd (c.if-group-eq61-2.false (eqb-true _ _ is)))
    (λ last. elim last.2 [
      | inl two ↦ absurd (c.if-group-eq61-2.false two.1)
      | inr more ↦ absurd (omega (arith, more.0))
    ])

pub returns-in_default-symbol_value : goal.returns-in_default-symbol_value
returns-in_default-symbol_value c =
    let group = c.args.group.now in
    let none : value_of (slice_index group 2) ≡ 255 = c.in_default-symbol_value.ensures.none in
    last-tells group false (λ i. let fits = c.type_inv.group i in omega arith) c.requires
    (λ bad. absurd (false≢true bad))
    (λ last. elim last.2 [
      | inl two ↦ absurd (c.if-group-eq61.false two.0)
      | inr more ↦ absurd (omega (arith, more.0))
    ])

pub returns-then-group-eq61-3 : goal.returns-then-group-eq61-3
returns-then-group-eq61-3 c =
    let group = c.args.group.now in
    let first : value_of (slice_index group 0) < 64 = from_some (slice_index group 0) _ c.symbol_value.ensures.some (c.is_none.ensures ∙ ap not c.if-is_none.false) in
    let second = c.in-Some.ensures.some in
    let third = c.in-Some-symbol_value.ensures.some in
    let padding = padding-value (slice_index group 3) c.if-group-eq61-3.true in
    last-tells group _ (λ i. let fits = c.type_inv.group i in omega arith) c.requires
    (λ is.
    let none = eqb-true _ _ is in
    (first, omega arith, inr (omega arith, inl (c.if-group-eq61-3.true, ap (λ n. n % 4) (sym third.1) ∙ none))))
    (λ last. elim last.2 [
      | inl two ↦ absurd (c.if-group-eq61.false two.0)
      | inr more ↦ elim more.1 [
        | inl one ↦ eq-eqb _ _ (ap (λ n. n % 4) third.1 ∙ one.1)
        | inr four ↦ absurd (omega (arith, four))
      ]
    ])

pub returns : goal.returns
returns c =
    let group = c.args.group.now in
    let first : value_of (slice_index group 0) < 64 = from_some (slice_index group 0) _ c.symbol_value.ensures.some (c.is_none.ensures ∙ ap not c.if-is_none.false) in
    let second = c.in-Some.ensures.some in
    let third = c.in-Some-symbol_value.ensures.some in
    let fourth = is_some-value (slice_index group 3) _ c.symbol_value-4.ensures.some c.symbol_value-4.ensures.none in
    last-tells group _ (λ i. let fits = c.type_inv.group i in omega arith) c.requires
    (λ is. (first, omega arith, inr (omega arith, inr (fourth.0 (sym c.is_some.ensures ∙ is)))))
    (λ last. elim last.2 [
      | inl two ↦ absurd (c.if-group-eq61.false two.0)
      | inr more ↦ elim more.1 [
        | inl one ↦ absurd (c.if-group-eq61-3.false one.0)
        | inr four ↦ c.is_some.ensures ∙ fourth.1 four
      ]
    ])
