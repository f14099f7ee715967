use Rattle.std.proofs.Common.{ap, ◌∙◌}
use Rattle.std.proofs.lemmas.Result.{err_from_is_err_and}
use Rattle.http_wire.specs.OnConnection.{OnConnection, ended_in}
use Rattle.http_wire.specs.inside.Sending.{OnOutbox}
use Rattle.http_wire.proofs.AheadLemmas.{IfSome-known}
use Rattle.http_wire.proofs.FinishLemmas.{Finishes-answered, Finishes-broken}
use Rattle.http_wire.proofs.conversation.finish_turn.Goals as goal

pub returns-clause-finishes : goal.returns-clause-finishes
returns-clause-finishes g c =
    let answered = c.answer.ensures in
    let wrote = c.in_ok-flush.ensures.writes in
    Finishes-answered g.A.Answer.steps c.args.now c.args.connection.now.read_buffer _ _ _ _ _ _ _ _ c.answer.new.self.phase c.ended.result answered.answers answered.phase (ap (λ (o : OnOutbox). o.pending) c.requires.sent)
    wrote.all wrote.failed (c.ended.ensures ∙ ap (λ (o : OnConnection). ended_in o.phase) c.flush.ensures.sent)

pub returns-in_err-flush-clause-finishes : goal.returns-in_err-flush-clause-finishes
returns-in_err-flush-clause-finishes g c =
    let p = err_from_is_err_and c.from_residual.result c.from_residual.ensures.1 in
    let failed = c.in_err-flush.ensures in
    Finishes-broken g.A.Answer.steps c.args.now c.args.connection.now.read_buffer _ _ _ _ _ _ _ _ c.from_residual.result p.0 c.in_err-flush.field-0.0 p.1 p.2 c.answer.ensures.answers (ap (λ (o : OnOutbox). o.pending) c.requires.sent) failed.writes failed.some

pub returns-clause-read_buffer : goal.returns-clause-read_buffer
returns-clause-read_buffer g c = ap (λ (o : OnConnection). o.read_buffer) c.flush.ensures.sent ∙ IfSome-known _ _ _ c.requires.came.1 c.answer.ensures.read_buffer

pub returns-in_err-flush-clause-read_buffer : goal.returns-in_err-flush-clause-read_buffer
returns-in_err-flush-clause-read_buffer g c = ap (λ (o : OnConnection). o.read_buffer) c.flush.ensures.sent ∙ IfSome-known _ _ _ c.requires.came.1 c.answer.ensures.read_buffer
