use Rattle.std.proofs.Common.{◌++◌, sym, ◌∙◌}
use Rattle.std.specs.Prelude.{codes}
use Rattle.http_wire.specs.File.{quote}
use Rattle.http_wire.proofs.PageLemmas.{joined, name_joined}
use Rattle.http_wire.proofs.write.file.put_name_parameter.Goals as goal

pub returns-then-are_quotable-clause-text : goal.returns-then-are_quotable-clause-text
returns-then-are_quotable-clause-text c =
    rw (sym c.are_quotable.ensures ∙ c.if-are_quotable.true, c.put-then-are_quotable-2.ensures, c.put-then-are_quotable.ensures, c.put.ensures)
    (name_joined c.args.page.now (codes "; filename=" ++ quote) c.args.name.now quote)

pub returns-else-are_quotable-clause-text : goal.returns-else-are_quotable-clause-text
returns-else-are_quotable-clause-text c =
    rw (sym c.are_quotable.ensures ∙ c.if-are_quotable.false) (joined _ _ _ _ _ c.put-else-are_quotable.ensures c.put_escaped.ensures.text)
