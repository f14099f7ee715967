use Rattle.std.proofs.Common.{ap, sym, subst, ◌∙◌}
use Rattle.head_board.specs.declared.board_copy.BoardCopy.{BoardCopy}
use Rattle.head_board.specs.inside.Showing.{IsCurrent}
use Rattle.head_board.proofs.BoardLemmas.{rule-first}
use Rattle.head_board.proofs.LastLemmas.{current-first}
use Rattle.head_board.proofs.board.Board.new.Goals as goal

pub new-requires-7-clause-rule : goal.new-requires-7-clause-rule
new-requires-7-clause-rule g c =
    rule-first _ (current-first c.args.settings.now c.args.opened.seen c.again.result c.in_ok-new.field-0 c.in_ok-new-2.field-0 c.new-3.result c.numbers-sound.ensures.sound c.in_ok-new.ensures c.again.ensures c.args.opened.empty c.in_ok-new-2.ensures)

pub begun-writer-requires-clause-current : goal.begun-writer-requires-clause-current
begun-writer-requires-clause-current g c =
    subst IsCurrent (sym c.in_ok-writer.ensures.0)
    (current-first c.args.settings.now c.args.opened.seen c.again.result c.in_ok-new.field-0 c.in_ok-new-2.field-0 c.new-3.result c.numbers-sound.ensures.sound c.in_ok-new.ensures c.again.ensures c.args.opened.empty c.in_ok-new-2.ensures)

pub invariant_of-result : goal.invariant_of-result
invariant_of-result g c =
    let known = rw c.if-not-begun.false at c.begun-writer.ensures in
    record {
      rest = known.1;
      same = sym (ap (λ (s : BoardCopy). s.seen) (known.0 ∙ c.in_ok-writer.ensures.0) ∙ c.again.ensures);
      word = c.args.opened.word_is;
    }
