use Rattle.std.proofs.Common.{List, option_map, subst, sym}
use Rattle.head_board.specs.Event.{Event}
use Rattle.head_board.specs.Events.{HaveHappened}
use Rattle.tus_shared.specs.Desk.{Moves, Spends}
use Rattle.tus_shared.proofs.desk.Desk.step_locked.Goals as goal

pub returns-clause-answers : goal.returns-clause-answers
returns-clause-answers g c =
    let seen = c.step.ensures.seen in
    record {
      before = c.deref_mut.result.now;
      begins = c.step.ensures.begins;
      lawful = c.step.ensures.lawful;
      happened = subst (λ (events : List Event). HaveHappened g.C.Charges.settings events) (sym seen) c.step.ensures.stays_happened;
      frame = option_map (λ f. f.items) c.args.frame;
      step = rw seen c.step.ensures.step;
      adds = rw seen c.step.ensures.adds;
      moves = subst (λ (after : List Event). Moves g.C.Charges.settings c.deref_mut.result.now after c.args.self.now c.step.new.desk) (sym seen) c.step.ensures.moves;
      spends = subst (λ (after : List Event). Spends c.deref_mut.result.now after c.args.self.now c.step.new.desk) (sym seen) c.step.ensures.spends;
    }
