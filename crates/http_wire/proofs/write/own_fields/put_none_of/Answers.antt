use Rattle.std.proofs.Common.{◌++◌}
use Rattle.std.specs.Prelude.{codes, decimal}
use Rattle.http_wire.specs.ReplyText.{line, crlf}
use Rattle.http_wire.proofs.PageLemmas.{none_joined}
use Rattle.http_wire.proofs.write.own_fields.put_none_of.Goals as goal

pub returns-clause-text : goal.returns-clause-text
unfolding line
returns-clause-text c =
    rw (c.put-3.ensures, c.put-2.ensures, c.as_bytes.ensures.value, c.format.ensures.text, c.put.ensures)
    (none_joined c.args.page.now (codes "Content-Range" ++ codes ": ") (codes "bytes */") (decimal c.args.len) crlf)
