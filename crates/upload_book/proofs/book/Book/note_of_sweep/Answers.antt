use Rattle.std.proofs.Common.{refl}
use Rattle.upload_book.specs.declared.board_line.HeadChange.TheVariants.{Swept}
use Rattle.upload_book.proofs.book.Book.note_of_sweep.Goals as goal

pub returns : goal.returns
returns c = record { head = Swept c.args.now; is = refl; told = refl; texts = tt }
