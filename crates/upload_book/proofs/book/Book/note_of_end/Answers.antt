use Rattle.std.proofs.Common.{refl, subst}
use Rattle.upload_book.specs.Book.{IsBook}
use Rattle.upload_book.specs.declared.board_line.HeadChange.TheVariants.{Gone}
use Rattle.upload_book.proofs.Heads.LineSteps.{end-head}
use Rattle.upload_book.proofs.book.Book.note_of_end.Goals as goal

pub returns : goal.returns
returns c =
    record {
      head = Gone c.args.ready.now.name;
      is = end-head c.args.self.now c.args.ready.now (subst IsBook c.self.view_is c.self.invariant) c.requires;
      told = refl;
      texts = tt;
    }
