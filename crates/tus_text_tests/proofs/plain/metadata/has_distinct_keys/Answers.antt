use Rattle.std.proofs.Common.{◌+◌, ◌&&◌, not, drop, option_copied, sym, ap, ◌∙◌, arith}
use Rattle.std.proofs.lemmas.List.{drop_all}
use Rattle.tus_text.specs.Metadata.{are_distinct}
use Rattle.tus_text.proofs.MetadataLemmas.{keys_of}
use Rattle.tus_text_tests.proofs.PlainCutLemmas.{drop-at, drop-past}
use Rattle.tus_text_tests.proofs.PlainMetadataLemmas.{length-keys}
use Rattle.tus_text_tests.proofs.plain.metadata.has_distinct_keys.Goals as goal

pub returns-in_default : goal.returns-in_default
returns-in_default c =
    let none = drop-past (keys_of c.args.text.now) c.loop-number.number (sym c.key_at.ensures ∙ ap option_copied c.in_default.is) in
    ap are_distinct (sym none) ∙ c.loop-number.invariant

pub returns-then-is_key_after : goal.returns-then-is_key_after
returns-then-is_key_after c =
    let keys = keys_of c.args.text.now in
    let number = c.loop-number.number in
    let first = drop-at keys number c.in-Some.key.now (sym c.key_at.ensures ∙ ap option_copied c.in-Some.is) in
    ap (λ found. not found && are_distinct (drop (number + 1) keys)) (sym c.if-is_key_after.true ∙ c.is_key_after.ensures)
    ∙ sym (ap are_distinct first) ∙ c.loop-number.invariant

pub loop-number-preserved : goal.loop-number-preserved
loop-number-preserved c =
    let keys = keys_of c.args.text.now in
    let number = c.loop-number.number in
    let first = drop-at keys number c.in-Some.key.now (sym c.key_at.ensures ∙ ap option_copied c.in-Some.is) in
    ap (λ found. not found && are_distinct (drop (number + 1) keys)) (sym c.if-is_key_after.false ∙ c.is_key_after.ensures)
    ∙ sym (ap are_distinct first) ∙ c.loop-number.invariant

pub returns : goal.returns
returns c =
    let none = drop_all c.loop-number.number (keys_of c.args.text.now) (omega (arith, length-keys c.args.text.now)) in
    ap are_distinct (sym none) ∙ c.loop-number.invariant
