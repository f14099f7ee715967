use Rattle.std.proofs.lemmas.Result.{err_from_is_err_and}
use Rattle.http_wire.proofs.ConversationLemmas.{IfErr-from}
use Rattle.http_wire.proofs.in_memory.conversation_of.Goals as goal

pub returns-in_err-ended-clause-breaks : goal.returns-in_err-ended-clause-breaks
returns-in_err-ended-clause-breaks g c =
    let p = err_from_is_err_and c.from_residual.result c.from_residual.ensures.1 in
    let broke = c.in_err-ended.ensures.breaks in
    IfErr-from _ c.from_residual.result p.0 c.in_err-ended.field-0.0 p.1 p.2 (broke.0, c.converse.new.reader.rest.now, broke.1, broke.2, broke.4)
