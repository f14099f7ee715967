use Rattle.std.proofs.Common.{Option, ap, sym, ◌∙◌, subst}
use Rattle.tus_steps.specs.Asked.{change_in}
use Rattle.tus_steps.specs.Changing.{IsChangeStep}
use Rattle.tus_steps.specs.declared.requested_change.ChangeOf.{ChangeOf}
use Rattle.tus_steps.proofs.AskedLemmas.{asks-none}
use Rattle.tus_steps.proofs.change.change_of.Goals as goal

pub returns-in_default : goal.returns-in_default
returns-in_default c =
    let none = asks-none c.asked_of.result c.in_default.not-Change in
    record {
      found = sym none ∙ ap change_in c.asked_of.ensures.is;
      ready = tt;
      step = λ b now lawful same. subst (λ (found : Option ChangeOf). IsChangeStep b c.args.request.now now found) none (c.asked_of.ensures.step b now lawful same);
    }
