use Rattle.std.proofs.Common.{ap₂, drop, fold, sym, ◌∙◌}
use Rattle.head_board.specs.inside.Showing.{noted}
use Rattle.head_board.proofs.BoardLemmas.{at_err, at_ok, next-same, shown-rest, shows-next}
use Rattle.head_board.proofs.board.published.Goals as goal

pub publish_as-shown-requires : goal.publish_as-shown-requires
publish_as-shown-requires g c next is =
    shows-next _ _ _ next (drop c.loop.writer.behind c.loop.writer.log.items) (next-same _ _ _ _ c.loop.invariant.0 c.loop.invariant.1 c.requires.next) is

pub loop-preserved : goal.loop-preserved
loop-preserved g c =
    let failed = sym c.is_ok.ensures.value ∙ c.if-is_ok.false in
    let values = at_err _ _ _ failed c.publish_as-shown.ensures.values in
    let rule = at_err _ _ _ failed c.publish_as-shown.ensures.rule in
    (values.0 ∙ c.loop.invariant.0, values.1 ∙ c.loop.invariant.1, rule ∙ c.loop.invariant.2)

pub returns-then-is_ok-clause-rest : goal.returns-then-is_ok-clause-rest
returns-then-is_ok-clause-rest g c =
    let ok = sym c.is_ok.ensures.value ∙ c.if-is_ok.true in
    let values = at_ok _ _ _ ok c.publish_as-shown.ensures.values in
    let rule = at_ok _ _ _ ok c.publish_as-shown.ensures.rule in
    shown-rest _ _ _ _ _ _ c.requires.next c.requires.knows c.requires.fits (values.0 ∙ ap₂ (fold noted) c.loop.invariant.0 c.loop.invariant.1) values.1 (rule ∙ c.loop.invariant.2)

pub returns-then-is_ok-clause-value : goal.returns-then-is_ok-clause-value
returns-then-is_ok-clause-value g c =
    let ok = sym c.is_ok.ensures.value ∙ c.if-is_ok.true in
    let values = at_ok _ _ _ ok c.publish_as-shown.ensures.values in
    values.0 ∙ ap₂ (fold noted) c.loop.invariant.0 c.loop.invariant.1
