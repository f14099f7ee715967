use Rattle.std.proofs.Common.{◌≡◌, ◌+◌, ◌-◌, ◌<◌, get_or, length, sym, ◌∙◌, arith}
use Rattle.std.specs.Char.{digit_value}
use Rattle.std.proofs.lemmas.Bool.Decides.{nat_tests}
use Rattle.std.proofs.lemmas.Int.Digits.{digits_value_more, digits_more}
use Rattle.std.proofs.lemmas.List.{nil_from_length, take_all}
use Rattle.tus_text.proofs.NumberLemmas.{number_of-empty, number_of-digits, number_of-other_byte, number_of-large}
use Rattle.tus_text.proofs.number.read_number.Goals as goal

pub returns-then-is_empty : goal.returns-then-is_empty
returns-then-is_empty c =
    let none = nil_from_length c.args.text.now (grind (arith, nat_tests)) in
    rw none (sym number_of-empty)

pub returns-then-not-is_ascii_digit : goal.returns-then-not-is_ascii_digit
returns-then-not-is_ascii_digit c =
    sym (number_of-other_byte c.args.text.now c.loop-byte.byte-index (omega arith) (λ digit. grind (arith, nat_tests)))

pub returns-in_err-checked_mul : goal.returns-in_err-checked_mul
returns-in_err-checked_mul c =
    let text = c.args.text.now in
    let i = c.loop-byte.byte-index in
    let more = digits_value_more 10 text i (omega arith) in
    let large = number_of-large text (i + 1) (omega arith) in
    c.from_residual.ensures ∙ sym large

pub returns-in_err-value : goal.returns-in_err-value
returns-in_err-value c =
    let text = c.args.text.now in
    let i = c.loop-byte.byte-index in
    let more = digits_value_more 10 text i (omega arith) in
    let large = number_of-large text (i + 1) (grind (arith, nat_tests)) in
    c.from_residual-in_err-value.ensures ∙ sym large

pub loop-byte-preserved : goal.loop-byte-preserved
loop-byte-preserved c =
    let text = c.args.text.now in
    let i = c.loop-byte.byte-index in
    let digit : digit_value (get_or text i 0) ≡ get_or text i 0 - 48 = grind (arith, nat_tests) in
    let small : digit_value (get_or text i 0) < 10 = grind (arith, nat_tests) in
    let more = digits_value_more 10 text i (omega arith) in
    record {
      digits = digits_more 10 text i (omega arith) c.loop-byte.invariant.digits small;
      value_is = omega arith;
      fits = omega arith;
    }

pub returns : goal.returns
returns c =
    let text = c.args.text.now in
    let seen = c.loop-byte.invariant in
    let whole = take_all c.loop-byte.byte-index text (omega arith) in
    let some : 0 < length text = grind (arith, nat_tests) in
    let value = rw whole at seen.value_is in
    rw value (sym (number_of-digits text (rw whole at seen.digits) some (omega arith)))
