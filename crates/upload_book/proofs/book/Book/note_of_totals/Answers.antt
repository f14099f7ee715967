use Rattle.std.proofs.Common.{refl}
use Rattle.upload_book.specs.Book.{plain_of}
use Rattle.upload_book.specs.declared.board_line.HeadChange.TheVariants.{Totals}
use Rattle.upload_book.specs.declared.restored.Restored.TheVariants as piece
use Rattle.upload_book.proofs.Heads.HeadsRestore.{head-none}
use Rattle.upload_book.proofs.book.Book.note_of_totals.Goals as goal

pub returns : goal.returns
returns c now =
    let r = c.args.ready.now in
    record {
      head = Totals;
      is = head-none (plain_of c.args.self.now) (piece.Totals r.released) now c.requires;
      told = refl;
      texts = tt;
    }
