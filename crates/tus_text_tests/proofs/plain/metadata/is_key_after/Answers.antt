use Rattle.std.proofs.Common.{◌+◌, ◌||◌, drop, option_copied, sym, ap, ◌∙◌, arith}
use Rattle.std.specs.List.{list_any}
use Rattle.std.specs.Str.{bytes_eq}
use Rattle.std.proofs.lemmas.List.{drop_all}
use Rattle.tus_text.proofs.MetadataLemmas.{keys_of}
use Rattle.tus_text_tests.proofs.PlainCutLemmas.{drop-at, drop-past}
use Rattle.tus_text_tests.proofs.PlainMetadataLemmas.{length-keys}
use Rattle.tus_text_tests.proofs.plain.metadata.is_key_after.Goals as goal

pub returns-in_default : goal.returns-in_default
returns-in_default c =
    let none = drop-past (keys_of c.args.text.now) c.loop-later.later (sym c.key_at.ensures ∙ ap option_copied c.in_default.is) in
    ap (list_any (bytes_eq c.args.key.now)) (sym none) ∙ c.loop-later.invariant

pub returns-then-eq : goal.returns-then-eq
returns-then-eq c =
    let keys = keys_of c.args.text.now in
    let later = c.loop-later.later in
    let test = list_any (bytes_eq c.args.key.now) in
    let first = drop-at keys later c.in-Some.other.now (sym c.key_at.ensures ∙ ap option_copied c.in-Some.is) in
    ap (λ same. same || test (drop (later + 1) keys)) (sym c.if-eq.true ∙ c.eq.ensures)
    ∙ sym (ap test first) ∙ c.loop-later.invariant

pub loop-later-preserved : goal.loop-later-preserved
loop-later-preserved c =
    let keys = keys_of c.args.text.now in
    let later = c.loop-later.later in
    let test = list_any (bytes_eq c.args.key.now) in
    let first = drop-at keys later c.in-Some.other.now (sym c.key_at.ensures ∙ ap option_copied c.in-Some.is) in
    ap (λ same. same || test (drop (later + 1) keys)) (sym c.if-eq.false ∙ c.eq.ensures)
    ∙ sym (ap test first) ∙ c.loop-later.invariant

pub returns : goal.returns
returns c =
    let none = drop_all c.loop-later.later (keys_of c.args.text.now) (omega (arith, length-keys c.args.text.now)) in
    ap (list_any (bytes_eq c.args.key.now)) (sym none) ∙ c.loop-later.invariant
