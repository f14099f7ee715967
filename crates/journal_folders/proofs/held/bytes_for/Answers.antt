use Rattle.std.proofs.Common.{arith}
use Rattle.upload_book.specs.Book.{plain_of}
use Rattle.upload_book.specs.PlainBook.{tenant_book}
use Rattle.journal_folders.proofs.HeldLemmas.{next-within, summed-all, unknown-past}
use Rattle.journal_folders.proofs.held.bytes_for.Goals as goal

pub returns-in-None : goal.returns-in-None
returns-in-None c =
    let b = plain_of c.args.book.now in
    let part = tenant_book b c.args.tenant in
    summed-all b.settings.numbers part c.loop-id.id c.loop-id.bytes (unknown-past b.settings.numbers part c.loop-id.id (omega arith) c.in-None.ensures.unknown) c.loop-id.invariant

pub returns : goal.returns
returns c =
    let b = plain_of c.args.book.now in
    let within = next-within b c.args.tenant c.settings.ensures.lawful c.requires in
    summed-all b.settings.numbers (tenant_book b c.args.tenant) c.loop-id.id c.loop-id.bytes (omega (arith, within)) c.loop-id.invariant
