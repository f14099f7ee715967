use Rattle.upload_book.specs.Book.{plain_of}
use Rattle.upload_book.specs.declared.restored.Restored.TheVariants as piece
use Rattle.upload_book.proofs.Heads.HeadsRestore.{head-none}
use Rattle.upload_book.proofs.book.Book.head_of_totals.Goals as goal

pub returns : goal.returns
returns c now = head-none (plain_of c.args.self.now) (piece.Totals c.args.ready.now.released) now c.requires
