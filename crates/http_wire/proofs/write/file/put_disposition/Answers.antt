use Rattle.std.specs.Prelude.{codes, ◌++◌}
use Rattle.http_wire.specs.File.{disposition_type, name_told}
use Rattle.http_wire.specs.ReplyText.{crlf, line}
use Rattle.tus_text.specs.Pair.{value_under}
use Rattle.http_wire.proofs.PageLemmas.{file_joined}
use Rattle.http_wire.proofs.write.file.put_disposition.Goals as goal

pub returns-clause-text : goal.returns-clause-text
unfolding line
returns-clause-text c =
    rw (c.put-3.ensures, c.put_name.ensures.text, c.put-2.ensures, c.disposition_type.ensures.text, c.put.ensures)
    (file_joined c.args.page.now (codes "Content-Disposition" ++ codes ": ") (disposition_type c.args.media.now) (name_told (value_under (codes "filename") c.args.metadata.now)) crlf)
