use Rattle.std.proofs.Common.{◌∙◌}
use Rattle.http_wire.specs.ReplyText.{opening}
use Rattle.http_wire.proofs.PageLemmas.{joined}
use Rattle.http_wire.proofs.write.reply.put_opening.Goals as goal

pub returns-clause-text : goal.returns-clause-text
unfolding opening
returns-clause-text c =
    let text = joined _ _ _ _ _ (joined _ _ _ _ _ (c.date_at-date.ensures.same ∙ c.put_status_line.ensures.text) c.put_line.ensures.text) c.put_version_line.ensures.text in
    rw (← c.date_at-date.ensures.date) text
