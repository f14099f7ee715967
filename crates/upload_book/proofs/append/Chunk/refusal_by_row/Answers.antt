use Rattle.std.proofs.Common.{◌≡◌, Option, Some, None, IfSome, sym, subst}
use Rattle.upload_book.specs.Append.{append_refusal, refusal_by_row, tests_by_bytes, tests_by_row}
use Rattle.upload_book.specs.Chunk.{Chunk}
use Rattle.upload_book.specs.declared.board_line.Account.{Account}
use Rattle.upload_book.specs.declared.head_row.HeadRow.{HeadRow}
use Rattle.upload_book.specs.declared.progress.Progress.{Progress}
use Rattle.upload_book.specs.declared.refusal.Refusal.{Refusal}
use Rattle.upload_book.specs.declared.settings.Numbers.{Numbers}
use Rattle.upload_book.specs.Progress.{progress_in, row_at}
use Rattle.upload_book.proofs.Lawful.FirstRefusal.{first-of-both}
use Rattle.upload_book.proofs.append.Chunk.refusal_by_row.Goals as goal

-- what is refused for how far an upload is, is refused on each account and whatever its texts
refused-by-row : (n : Numbers) (progress : Progress) (chunk : Chunk) (found : Option Refusal) → found ≡ refusal_by_row n (row_at progress) chunk
    → IfSome found (λ why. (account : Account) (row : HeadRow) → progress_in row ≡ progress → append_refusal n account row chunk ≡ Some why)
refused-by-row n progress chunk None is = tt
refused-by-row n progress chunk (Some why) is = λ account row so_far.
    let row_is = subst (λ p. Some why ≡ refusal_by_row n (row_at p) chunk) (sym so_far) is in
    first-of-both (tests_by_row n row chunk) (tests_by_bytes n account row chunk) why (sym row_is)

pub returns-clause-refused : goal.returns-clause-refused
returns-clause-refused c = refused-by-row c.args.numbers.now c.args.progress.now c.args.self.now c.refusal_by_row.result c.refusal_by_row.ensures
