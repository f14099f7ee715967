use Rattle.std.proofs.Common.{IfSome, Result, subst}
use Rattle.std.specs.Prelude.{⊤}
use Rattle.upload_book.specs.declared.refusal.Refusal.{Refusal}
use Rattle.upload_book.specs.Settings.{Settings}
use Rattle.head_board.specs.Board.{ReadsHead, row_read}
use Rattle.tus_shared.proofs.desk.Desk.read_board.Goals as goal

pub returns-clause-reads : goal.returns-clause-reads
returns-clause-reads g c =
    rw (← c.self.view_is) (subst (λ (s : Settings). IfSome c.look.result (λ (read : Result ⊤ Refusal). ReadsHead s c.self.inside.reader.events c.look.new.self.events c.args.name.now c.args.now (row_read read c.look.new.row))) c.self.invariant.reader_settings c.look.ensures.reads)
