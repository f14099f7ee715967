use Rattle.std.proofs.Common.{[], true, ap, refl, sym, subst, ◌∙◌}
use Rattle.http_wire.specs.Conversation.{continue_text}
use Rattle.http_wire.specs.inside.Standing.{LooksOn}
use Rattle.http_wire.specs.declared.read.layout.Layout.{Layout}
use Rattle.http_wire.specs.declared.read.stage.Stage.TheVariants.{Body}
use Rattle.http_wire.proofs.AheadLemmas.{IfSome-known}
use Rattle.http_wire.proofs.PieceLemmas.{IsTaken-first}
use Rattle.http_wire.proofs.read.stage.Stage.begin_body.Goals as goal

pub returns-then-layout-clause-looks : goal.returns-then-layout-clause-looks
returns-then-layout-clause-looks c limits bytes begins =
    let body = c.in-Some-pieced.body in
    let from = IfSome-known _ c.of-pieced.result body c.in-Some-pieced.is c.of-pieced.ensures.begins in
    let held = c.in_default.ensures.held in (
      refl,
      (
        [],
        IsTaken-first limits bytes (continue_text true) body c.make_room.new.read_buffer.held (ap continue_text (sym c.if-layout.true) ∙ ap (λ (p : Layout). continue_text p.is_waiting) (sym from.0)) from.1 (rw (from.0, held) c.requires.held)
            (rw (from.0, held) begins),
      ),
    )

pub returns-else-layout-clause-looks : goal.returns-else-layout-clause-looks
returns-else-layout-clause-looks c limits bytes begins =
    let body = c.in-Some-pieced.body in
    let from = IfSome-known _ c.of-pieced.result body c.in-Some-pieced.is c.of-pieced.ensures.begins in
    let held = c.in_default.ensures.held in
    c.look_for_piece.ensures.looks limits bytes [] []
    (IsTaken-first limits bytes [] body c.make_room.new.read_buffer.held (ap continue_text (sym c.if-layout.false) ∙ ap (λ (p : Layout). continue_text p.is_waiting) (sym from.0)) from.1 (rw (from.0, held) c.requires.held)
    (rw (from.0, held) begins))

pub returns-else-layout-2-clause-looks : goal.returns-else-layout-2-clause-looks
returns-else-layout-2-clause-looks c limits bytes begins =
    subst (λ t. LooksOn limits bytes t c.look_for_body.new.read_buffer (Body c.args.layout) c.look_for_body.result) (ap continue_text c.if-layout-2.false)
    (c.look_for_body.ensures.looks limits bytes (rw c.in_default.ensures.held begins))

pub returns-in-Err-clause-gathers : goal.returns-in-Err-clause-gathers
returns-in-Err-clause-gathers c = c.in-Err.ensures.gathers c.args.piece

pub returns-else-layout-clause-gathers : goal.returns-else-layout-clause-gathers
returns-else-layout-clause-gathers c = c.look_for_piece.ensures.gathers c.args.piece
