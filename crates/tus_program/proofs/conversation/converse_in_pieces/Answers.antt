use Rattle.std.proofs.Common.{◌≢◌, ◌∙◌, sym, subst}
use Rattle.std.proofs.lemmas.Result.{IfErr-at_err}
use Rattle.http_wire.specs.OnConnection.{OnConnection, wanted}
use Rattle.http_wire.specs.declared.connection.Wants.TheVariants.{Answer}
use Rattle.tus_program.proofs.TalkInPiecesLemmas.{if_err-any, limits-by, on_ok-both, over-by, talks-by}
use Rattle.tus_program.proofs.conversation.converse_in_pieces.Goals as goal

pub returns-clause-pieces : goal.returns-clause-pieces
returns-clause-pieces g c =
    let carried = c.carry_on.ensures in
    let had = carried.carries in
    let t = talks-by g.A.Answer.steps c.args.piece c.args.now _ _ _ _ _ _ _ c.by_pieces-connection.result c.carry_on.new.connection c.carry_on.new.clock had.0 c.by_pieces-connection.ensures.begins c.by_pieces-connection.ensures.piece
    carried.piece (carried.limits ∙ limits-by _ _ _ c.max_size-max_size.ensures.value c.min.ensures _ c.by_pieces-connection.ensures.limits) had.1 had.2 in
    on_ok-both c.carry_on.result carried.sent had.3 (λ sent ended. (t.0, over-by g.A.Answer.steps c.args.piece c.args.now _ _ _ _ _ _ _ t.0 c.carry_on.new.connection had.0 t.1 t.2 sent ended))

pub returns-clause-broken : goal.returns-clause-broken
returns-clause-broken g c =
    let carried = c.carry_on.ensures in
    let had = carried.carries in
    let t = talks-by g.A.Answer.steps c.args.piece c.args.now _ _ _ _ _ _ _ c.by_pieces-connection.result c.carry_on.new.connection c.carry_on.new.clock had.0 c.by_pieces-connection.ensures.begins c.by_pieces-connection.ensures.piece
    carried.piece (carried.limits ∙ limits-by _ _ _ c.max_size-max_size.ensures.value c.min.ensures _ c.by_pieces-connection.ensures.limits) had.1 had.2 in
    if_err-any c.carry_on.result _ (λ f is not_memory. (t.0, λ read. subst (λ (o : OnConnection). wanted o ≢ Answer) (sym t.1) (IfErr-at_err _ is carried.applied read)))
