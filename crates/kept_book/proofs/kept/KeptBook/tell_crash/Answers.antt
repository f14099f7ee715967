use Rattle.kept_book.proofs.KeptLemmas.{kept-leaves}
use Rattle.kept_book.proofs.kept.KeptBook.tell_crash.Goals as goal

pub returns : goal.returns
returns g c = λ s events is left may. kept-leaves c.args.self.now s events is left may
