use Rattle.std.proofs.Common.{inr}
use Rattle.kept_book.specs.Kept.{book_in}
use Rattle.kept_book.proofs.ReadyLemmas.{accepted-as, lacking-as}
use Rattle.kept_book.proofs.StepLemmas.{refused-by}
use Rattle.kept_book.proofs.kept.KeptBook.refuse.Goals as goal

pub returns-in-Err-clause-refused : goal.returns-in-Err-clause-refused
returns-in-Err-clause-refused g c = refused-by (book_in c.args.self.now) c.args.change c.args.now c.in-Err.refused c.in-Err.ensures.refused

pub returns-in-Ok-clause-refused : goal.returns-in-Ok-clause-refused
returns-in-Ok-clause-refused g c =
    inr (
      accepted-as (book_in c.args.self.now) c.prepare.new.self c.in-Ok.ready c.args.change c.args.now c.prepare.ensures.plain c.in-Ok.ensures.change c.in-Ok.ensures.now c.in-Ok.ensures.ready,
      lacking-as (book_in c.args.self.now) c.prepare.new.self c.in-Ok.ready c.args.change c.args.now c.refused_for_memory.result c.prepare.ensures.plain c.in-Ok.ensures.change c.in-Ok.ensures.now c.refused_for_memory.ensures,
    )
