use Rattle.std.proofs.Common.{sym, arith}
use Rattle.journal_records.proofs.Spelled.{record_spelled}
use Rattle.journal_keeper.proofs.OpeningLemmas.{made-of}
use Rattle.journal_keeper.proofs.opening.make_record_again.Goals as goal

pub returns-clause-made : goal.returns-clause-made
returns-clause-made g c =
    let now = c.in-Some.record.now in
    let change = c.in-Some.record.change in
    let spelled = record_spelled c.args.bytes.now now change (λ i. omega (arith, c.type_inv.bytes i)) c.in-Some.ensures in
    made-of c.make_change_again.result c.args.desk.now.number now change c.args.bytes.now c.args.store.now c.make_change_again.new.store (sym spelled.0) c.make_change_again.ensures.made
