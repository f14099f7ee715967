use Rattle.std.proofs.Common.{◌++◌}
use Rattle.std.specs.Prelude.{codes, decimal}
use Rattle.http_wire.specs.ReplyText.{line, text_line, crlf}
use Rattle.http_wire.proofs.PageLemmas.{range_joined}
use Rattle.http_wire.proofs.write.own_fields.put_range.Goals as goal

pub returns-clause-text : goal.returns-clause-text
unfolding line text_line
returns-clause-text c =
    rw (c.in-Range.is, c.put-7.ensures, c.put-6.ensures, c.as_bytes-3.ensures.value, c.format-3.ensures.text, c.put-5.ensures, c.put-4.ensures, c.as_bytes-2.ensures.value, c.format-2.ensures.text, c.put-3.ensures, c.put-2.ensures, c.as_bytes.ensures.value, c.format.ensures.text, c.put.ensures)
    (range_joined c.args.page.now (codes "Content-Range" ++ codes ": ") (codes "bytes ") (decimal c.in-Range.first) (codes "-") (decimal c.in-Range.last) (codes "/") (decimal c.in-Range.len) crlf)
