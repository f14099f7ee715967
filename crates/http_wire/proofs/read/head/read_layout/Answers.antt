use Rattle.std.proofs.Common.{length, take, sym}
use Rattle.http_wire.proofs.HeadFieldsLemmas.{AreInside-found, ShowFields-found}
use Rattle.http_wire.proofs.HeadLemmas.{ReadsLayout-judged}
use Rattle.http_wire.proofs.read.head.read_layout.Goals as goal

pub layout_of-requires-clause-fields : goal.layout_of-requires-clause-fields
layout_of-requires-clause-fields c =
    rw c.gather.ensures (AreInside-found (length c.args.head.now) c.args.head.now (take c.in-Some.line.headers c.parse.new.spans)
    (rw c.in-Some.ensures.1.whole at c.in-Some.ensures.1.within.section.headers_fit))

pub returns-clause-gives : goal.returns-clause-gives
returns-clause-gives c =
    let h = c.in-Some.ensures.0 in
    let line = c.in-Some.ensures.1 in
    ReadsLayout-judged c.args.limits c.args.head.now h c.layout_of.result (sym c.if-has_many_lines.ensures) line.parses
    (c.layout_of.ensures.shown h (record { method = line.at.method; target = line.at.path; version = line.at.version })
    (rw c.gather.ensures (ShowFields-found c.args.head.now (take c.in-Some.line.headers c.parse.new.spans) h.fields line.at.fields)))
