use Rattle.std.proofs.Common.{subst}
use Rattle.upload_book.specs.Book.{IsBook}
use Rattle.upload_book.proofs.Heads.LineSteps.{end-head}
use Rattle.upload_book.proofs.book.Book.head_of_end.Goals as goal

pub returns : goal.returns
returns c = end-head c.args.self.now c.args.ready.now (subst IsBook c.self.view_is c.self.invariant) c.requires
