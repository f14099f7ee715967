use Rattle.std.proofs.Common.{◌++◌}
use Rattle.std.specs.Prelude.{codes, decimal}
use Rattle.http_wire.specs.ReplyText.{line, crlf}
use Rattle.http_wire.proofs.PageLemmas.{path_joined}
use Rattle.http_wire.proofs.write.own_fields.put_path.Goals as goal

pub returns-clause-text : goal.returns-clause-text
unfolding line
returns-clause-text c =
    rw (c.put-5.ensures, c.put-4.ensures, c.as_bytes.ensures.value, c.format.ensures.text, c.put-3.ensures, c.put-2.ensures, c.put.ensures)
    (path_joined c.args.page.now (codes "Location" ++ codes ": ") (codes "/files/") c.args.tenant.now (codes "/") (decimal c.args.id) crlf)
