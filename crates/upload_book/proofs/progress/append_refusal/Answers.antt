use Rattle.std.proofs.Common.{sym, ◌∙◌}
use Rattle.upload_book.specs.Append.{tests_by_bytes, tests_by_row}
use Rattle.upload_book.specs.Progress.{row_at}
use Rattle.upload_book.proofs.Lawful.FirstRefusal.{first-of-both}
use Rattle.upload_book.proofs.progress.append_refusal.Goals as goal

pub returns-in-Some : goal.returns-in-Some
returns-in-Some c =
    let row = row_at c.args.progress.now in
    let tests = tests_by_row c.args.numbers.now row c.args.chunk.now in
    let others = tests_by_bytes c.args.numbers.now c.args.account.now row c.args.chunk.now in
    sym (first-of-both tests others c.in-Some.refusal (sym c.refusal_by_row.ensures ∙ c.in-Some.is))
