use Rattle.std.proofs.Common.{eqb, ◌+◌, ◌-◌, take, drop, Some, slice_get, sym, ap, ◌∙◌, arith}
use Rattle.std.specs.List.{slice_split}
use Rattle.std.proofs.lemmas.List.{take_rest}
use Rattle.tus_text_tests.proofs.PlainCutLemmas.{first-part, later-part-none, later-part, position-le}
use Rattle.tus_text_tests.proofs.plain.cut.+part_at.Goals as goal

pub returns-then-number-eq0 : goal.returns-then-number-eq0
returns-then-number-eq0 t c =
    let text = c.args.text.now in
    let parts = slice_split (λ b. eqb b c.args.mark) text in
    ap (λ end. Some (take end text)) c.part_end-end.ensures ∙ sym (ap (slice_get parts) c.if-number-eq0.true ∙ first-part (λ b. eqb b c.args.mark) text)

pub returns-then-end-text : goal.returns-then-end-text
returns-then-end-text t c =
    sym (later-part-none (λ b. eqb b c.args.mark) c.args.text.now c.args.number (omega arith) (omega arith))

pub overflow_add-end : goal.overflow_add-end
overflow_add-end t c = let low = position-le (λ b. eqb b c.args.mark) c.args.text.now in omega arith

pub slice_bounds-part_at-count : goal.slice_bounds-part_at-count
slice_bounds-part_at-count t c = let low = position-le (λ b. eqb b c.args.mark) c.args.text.now in omega arith

pub slice_bounds-part_at-start : goal.slice_bounds-part_at-start
slice_bounds-part_at-start t c = slice_bounds-part_at-count t c

pub returns : goal.returns
returns t c =
    let text = c.args.text.now in
    let low = position-le (λ b. eqb b c.args.mark) text in
    let rest = take_rest text (c.part_end-end.result + 1) in
    let later = later-part (λ b. eqb b c.args.mark) text c.args.number (omega arith) (omega arith) in
    let after = rest ∙ ap (λ end. drop (end + 1) text) c.part_end-end.ensures in
    c.part_at.ensures ∙ ap (λ bytes. slice_get (slice_split (λ b. eqb b c.args.mark) bytes) (c.args.number - 1)) after ∙ sym later
