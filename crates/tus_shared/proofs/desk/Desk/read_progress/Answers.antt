use Rattle.std.proofs.Common.{IfSome, Result, subst}
use Rattle.upload_book.specs.declared.progress.Progress.{Progress}
use Rattle.upload_book.specs.declared.refusal.Refusal.{Refusal}
use Rattle.upload_book.specs.Settings.{Settings}
use Rattle.head_board.specs.Board.{ReadsProgress}
use Rattle.tus_shared.proofs.desk.Desk.read_progress.Goals as goal

pub returns-clause-reads : goal.returns-clause-reads
returns-clause-reads g c =
    rw (← c.self.view_is) (subst (λ (s : Settings). IfSome c.progress.result (λ (p : Result Progress Refusal). ReadsProgress s c.self.inside.reader.events c.progress.new.self.events c.args.name.now c.args.now p)) c.self.invariant.reader_settings c.progress.ensures.reads)
