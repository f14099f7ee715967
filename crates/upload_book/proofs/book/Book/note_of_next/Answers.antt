use Rattle.std.proofs.Common.{refl}
use Rattle.upload_book.specs.Book.{plain_of}
use Rattle.upload_book.specs.declared.board_line.HeadChange.TheVariants.{Next}
use Rattle.upload_book.specs.declared.restored.Restored.TheVariants as piece
use Rattle.upload_book.proofs.Heads.HeadsRestore.{head-none}
use Rattle.upload_book.proofs.book.Book.note_of_next.Goals as goal

pub returns : goal.returns
returns c now =
    let r = c.args.ready.now in
    record {
      head = Next (record { tenant = r.tenant; id = r.next });
      is = head-none (plain_of c.args.self.now) (piece.Next r.tenant r.next) now c.requires.accepted;
      told = refl;
      texts = tt;
    }
