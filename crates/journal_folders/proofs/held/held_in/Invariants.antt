use Rattle.upload_book.specs.Book.{plain_of}
use Rattle.journal_folders.proofs.HeldLemmas.{IsHeldSoFar}
use Rattle.journal_folders.proofs.held.held_in.Given as goal

abbrev pub invariant-loop-tenant : goal.invariant-loop-tenant
invariant-loop-tenant l = IsHeldSoFar (plain_of l.book) l.tenant l.all
