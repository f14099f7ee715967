use Rattle.std.proofs.Common.{ap, fold, sym, subst, ◌∙◌}
use Rattle.head_board.specs.inside.Showing.{IsCurrent, noted}
use Rattle.head_board.proofs.BoardLemmas.{at_ok, begins-note, begun-if, begun-rest}
use Rattle.head_board.proofs.board.shown_first.Goals as goal

pub publish_as-writer-requires : goal.publish_as-writer-requires
publish_as-writer-requires g c next is =
    let one = c.make_room.ensures.next ∙ ap (fold noted c.args.writer.desk.shown.value) c.requires.pending ∙ sym (ap (λ d. d.shown.value) c.make_room.ensures.desk) in
    begins-note _ _ _ next _ one is

pub returns : goal.returns
returns g c =
    begun-if c.is_ok.result _ _ _ _ (λ yes.
    let published = c.publish_as-writer.ensures in
    let ok = sym c.is_ok.ensures.value ∙ yes in
    let values = at_ok _ _ _ ok published.values in
    let same = ap (λ d. d.shown.value) c.make_room.ensures.desk in
    let one = c.make_room.ensures.next ∙ ap (fold noted c.args.writer.desk.shown.value) c.requires.pending ∙ sym same in
    let rest = begun-rest _ _ _ _ _ (subst IsCurrent (sym same) c.requires.current) one values.0 values.1 (at_ok _ _ _ ok published.rule) in
    (rest.0 ∙ same, rest.1))
