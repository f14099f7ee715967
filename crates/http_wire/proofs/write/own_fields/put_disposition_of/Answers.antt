use Rattle.std.proofs.Common.{◌++◌, ap, append-nil, sym, ◌∙◌}
use Rattle.std.specs.Prelude.{codes}
use Rattle.http_wire.specs.File.{disposition}
use Rattle.http_wire.specs.ReplyText.{line, text_line}
use Rattle.http_wire.proofs.FileLemmas.{disposition-told, disposition-untold, disposition_line}
use Rattle.http_wire.proofs.write.own_fields.put_disposition_of.Goals as goal

pub returns-then-tells_ranges-clause-text : goal.returns-then-tells_ranges-clause-text
returns-then-tells_ranges-clause-text c =
    let reply = c.args.reply.now in
    let told = disposition-told c.args.media.now reply.kind reply.row (sym c.tells_ranges.ensures ∙ c.if-tells_ranges.true) in
    let name = codes "Content-Disposition" in
    c.put_disposition.ensures.text
    ∙ ap (λ metadata. c.args.page.now ++ line name (disposition c.args.media.now metadata)) c.as_slice.ensures.value
    ∙ ap (λ text. c.args.page.now ++ text) (sym (disposition_line name c.args.media.now reply.row.metadata) ∙ ap (text_line name) (sym told))

pub returns-else-tells_ranges-clause-text : goal.returns-else-tells_ranges-clause-text
unfolding text_line
returns-else-tells_ranges-clause-text c =
    let reply = c.args.reply.now in
    rw (disposition-untold c.args.media.now reply.kind reply.row (sym c.tells_ranges.ensures ∙ c.if-tells_ranges.false)) (sym (append-nil c.args.page.now))
