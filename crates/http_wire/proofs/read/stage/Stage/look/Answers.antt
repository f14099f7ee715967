use Rattle.std.proofs.Common.{arith, sym, subst}
use Rattle.http_wire.specs.inside.Standing.{Comes, LooksOn, Standing}
use Rattle.http_wire.specs.declared.read.stage.Stage.TheVariants.{Body}
use Rattle.http_wire.proofs.read.stage.Stage.look.Goals as goal

pub returns-in_default-clause-looks : goal.returns-in_default-clause-looks
returns-in_default-clause-looks c bytes said stands =
    let s = subst (λ stage. Standing c.args.limits bytes said c.args.read_buffer.now stage) c.in-Head.is stands in
    (s.0, c.in_default.ensures.finds bytes s.1)

pub returns-in-Ok-clause-looks : goal.returns-in-Ok-clause-looks
returns-in-Ok-clause-looks c bytes said stands =
    let s = subst (λ stage. Standing c.args.limits bytes said c.args.read_buffer.now stage) c.in-Head.is stands in
    subst (λ t. LooksOn c.args.limits bytes t c.begin_body.new.read_buffer c.begin_body.new.self c.begin_body.result) (sym s.0)
    (c.begin_body.ensures.looks c.args.limits bytes (c.in-Ok.ensures.head bytes (c.in-Some.ensures.finds bytes s.1)))

pub returns-in-Ok-clause-nearer : goal.returns-in-Ok-clause-nearer
returns-in-Ok-clause-nearer c = c.begin_body.ensures.nearer _ (rw c.in-Head.is (omega arith))

pub returns-in-Err-clause-looks : goal.returns-in-Err-clause-looks
returns-in-Err-clause-looks c bytes said stands =
    let s = subst (λ stage. Standing c.args.limits bytes said c.args.read_buffer.now stage) c.in-Head.is stands in
    subst (λ t. Comes c.args.limits bytes t c.look.new.read_buffer c.in-Err.incoming) (sym s.0) (c.in-Err.ensures.comes bytes (c.in-Some.ensures.finds bytes s.1))

pub returns-in-Body-clause-looks : goal.returns-in-Body-clause-looks
returns-in-Body-clause-looks c bytes said stands =
    let s = subst (λ stage. Standing c.args.limits bytes said c.args.read_buffer.now stage) c.in-Body.is stands in
    subst (λ t. LooksOn c.args.limits bytes t c.look_for_body.new.read_buffer (Body c.in-Body.layout) c.look_for_body.result) (sym s.0) (c.look_for_body.ensures.looks c.args.limits bytes s.1)

pub returns-in-Pieces-clause-looks : goal.returns-in-Pieces-clause-looks
returns-in-Pieces-clause-looks c bytes said stands =
    let s = subst (λ stage. Standing c.args.limits bytes said c.args.read_buffer.now stage) c.in-Pieces.is stands in
    c.look_for_piece.ensures.looks c.args.limits bytes said s.0 s.1

pub returns-in-Err-clause-gathers : goal.returns-in-Err-clause-gathers
returns-in-Err-clause-gathers c _ = c.in-Err.ensures.gathers c.args.piece

pub returns-in-Pieces-clause-gathers : goal.returns-in-Pieces-clause-gathers
returns-in-Pieces-clause-gathers c _ = c.look_for_piece.ensures.gathers c.args.piece
