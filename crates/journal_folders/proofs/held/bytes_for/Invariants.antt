use Rattle.std.proofs.Common.{◌≡◌}
use Rattle.upload_book.specs.Book.{plain_of}
use Rattle.upload_book.specs.Charge.{sum_below}
use Rattle.upload_book.specs.PlainBook.{tenant_book}
use Rattle.journal_folders.specs.Held.{bytes_under, capped}
use Rattle.journal_folders.proofs.held.bytes_for.Given as goal

abbrev pub invariant-loop-id : goal.invariant-loop-id
invariant-loop-id l = l.bytes ≡ capped (sum_below l.id (bytes_under (plain_of l.book).settings.numbers (tenant_book (plain_of l.book) l.tenant)))
