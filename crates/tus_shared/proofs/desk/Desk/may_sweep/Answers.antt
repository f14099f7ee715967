use Rattle.upload_book.specs.Settings.{Settings}
use Rattle.head_board.specs.Board.{SeesNoneExpired}
use Rattle.std.proofs.Common.{subst}
use Rattle.tus_shared.proofs.desk.Desk.may_sweep.Goals as goal

pub returns-clause-none : goal.returns-clause-none
returns-clause-none g c none =
    rw (← c.self.view_is) (subst (λ (s : Settings). SeesNoneExpired s c.self.inside.reader.events c.may_expire.new.self.events c.args.now) c.self.invariant.reader_settings (c.may_expire.ensures.none none))
