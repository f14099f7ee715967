use Rattle.std.proofs.Common.{inl, sym, rules}
use Rattle.kept_book.specs.Kept.{book_in}
use Rattle.kept_book.proofs.KeptLemmas.{kept-leaves}
use Rattle.kept_book.proofs.StepLemmas.{done-step, found-of, stays-on}
use Rattle.kept_book.proofs.kept.KeptBook.answer.Goals as goal

pub returns-then-self-clause-crash : goal.returns-then-self-clause-crash
returns-then-self-clause-crash g c = λ s events is left may. kept-leaves c.args.self.now s events is left may

pub returns-in_ok-done-in-Change-clause-step : goal.returns-in_ok-done-in-Change-clause-step
returns-in_ok-done-in-Change-clause-step g c =
    let b = book_in c.args.self.now in
    let found = c.in-Change.ensures in
    let steps = found.step b c.args.now c.settings.ensures.lawful (sym c.settings.ensures.value) in
    done-step b c.args.request.now c.args.now c.in-Change.asked c.in_ok-done-in-Change.done _ _ steps (found-of c.settings.result.now b.settings c.args.request.now c.in-Change.asked found.is c.settings.ensures.value) c.put_done.ensures c.in_ok-done-in-Change.ensures.done

pub returns-in_default : goal.returns-in_default
returns-in_default g c = record {
  step = inl c.answer_asked.ensures.step;
  kept = λ s events is. stays-on c.args.self.now s events is;
  crash = λ s events is left may. kept-leaves c.args.self.now s events is left may;
  key = search rules;
  failed = search rules;
  works = search rules;
  stays = search rules;
  due = search rules;
  ended = search rules;
}
