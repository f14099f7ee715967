use Rattle.journal_keeper.proofs.KeeperLemmas.{left-less}
use Rattle.journal_keeper.proofs.laws.what_was_told_is_left.Goals as goal

pub returns : goal.returns
returns g c = λ honest left may. left-less c.args.keeper.now.key g.C.Charges.settings c.args.desk.now.seen c.args.keeper.now.kept left c.requires (c.tell_crash.ensures.left honest left may).left
