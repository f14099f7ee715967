use Rattle.upload_book.specs.Book.{plain_of}
use Rattle.upload_book.specs.declared.restored.Restored.TheVariants as piece
use Rattle.upload_book.proofs.Heads.HeadsRestore.{head-none}
use Rattle.upload_book.proofs.book.Book.head_of_next.Goals as goal

pub returns : goal.returns
returns c now = head-none (plain_of c.args.self.now) (piece.Next c.args.ready.now.tenant c.args.ready.now.next) now c.requires.accepted
