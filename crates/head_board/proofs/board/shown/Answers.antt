use Rattle.std.proofs.Common.{ap, drop, fold, refl, subst, sym, ◌∙◌}
use Rattle.head_board.specs.inside.Showing.{IsNext, noted}
use Rattle.head_board.proofs.BoardLemmas.{shown-next}
use Rattle.head_board.proofs.board.shown.Goals as goal

pub published-requires-clause-next : goal.published-requires-clause-next
published-requires-clause-next g c =
    let told = c.note_change-change.ensures in
    let next = shown-next c.args.writer.desk.shown.value _ _ _ c.args.work.note.now _ c.requires.rest.nothing told.same told.change refl c.note_down.ensures.next c.requires.next in
    subst (λ s. IsNext s (fold noted c.note_down.new.writer.desk.shown.value (drop c.note_down.new.writer.behind c.note_down.new.writer.log.items)))
    (sym (ap (λ d. d.shown.value) (c.note_down.ensures.desk ∙ told.desk))) next

pub returns-clause-next : goal.returns-clause-next
returns-clause-next g c =
    let told = c.note_change-change.ensures in
    shown-next c.args.writer.desk.shown.value _ _ _ c.args.work.note.now _ c.requires.rest.nothing told.same told.change refl (c.published.ensures.value ∙ c.note_down.ensures.next) c.requires.next
