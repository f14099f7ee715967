use Rattle.kept_book.proofs.KeptLemmas.{kept-leaves}
use Rattle.kept_book.proofs.StepLemmas.{stays-on}
use Rattle.kept_book.proofs.kept.KeptBook.sweep.Goals as goal

pub returns-then-self-clause-crash : goal.returns-then-self-clause-crash
returns-then-self-clause-crash g c = λ s events is left may. kept-leaves c.args.self.now s events is left may

pub returns-then-is_fresh-clause-kept : goal.returns-then-is_fresh-clause-kept
returns-then-is_fresh-clause-kept g c = λ s events is. stays-on c.args.self.now s events is

pub returns-then-is_fresh-clause-crash : goal.returns-then-is_fresh-clause-crash
returns-then-is_fresh-clause-crash g c = λ s events is left may. kept-leaves c.args.self.now s events is left may
