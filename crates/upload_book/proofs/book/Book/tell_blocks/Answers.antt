use Rattle.upload_book.specs.contracts.book.Book.{the_view}
use Rattle.upload_book.proofs.Steps.TellBlocks.{holds}
use Rattle.upload_book.proofs.book.Book.tell_blocks.Goals as goal

pub returns-clause-blocks : goal.returns-clause-blocks
returns-clause-blocks c =
    rw (← c.self.view_is) (holds (the_view c.self.inside) c.self.invariant c.tell_blocks.ensures.stored c.tell_blocks.ensures.own c.free.ensures.in_use)
