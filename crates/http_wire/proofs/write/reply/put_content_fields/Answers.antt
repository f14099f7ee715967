use Rattle.http_wire.specs.ReplyText.{content_fields}
use Rattle.http_wire.proofs.PageLemmas.{joined}
use Rattle.http_wire.proofs.write.reply.put_content_fields.Goals as goal

pub returns-clause-text : goal.returns-clause-text
unfolding content_fields
returns-clause-text c = joined _ _ _ _ _ c.put_text_line.ensures.text c.put_number_line.ensures.text
