use Rattle.std.proofs.Common.{arith, ap, refl, subst, sym, ◌∙◌}
use mathlib.Core.List.{IsPrefix}
use Rattle.head_board.specs.inside.EventLog.{LogPrefix}
use Rattle.tus_shared.proofs.LogLaws.{prefix-self}
use Rattle.journal_keeper.proofs.KeeperLemmas.{left-all}
use Rattle.journal_keeper.proofs.keeper.Keeper.new.Goals as goal

pub invariant_of-result : goal.invariant_of-result
invariant_of-result g c =
    let same = c.again-tried.ensures in
    let begins : IsPrefix c.args.durable.events c.again-tried.result.events = subst (λ (r : LogPrefix). IsPrefix c.args.durable.events r.events) (sym same) (prefix-self c.args.durable.events) in (
      record {
        key = c.requires.key;
        durable_log = c.requires.log;
        tried_log = ap (λ (r : LogPrefix). r.book) same ∙ c.requires.log;
        begins = begins;
        no_more = λ well. same;
        happened = c.requires.happened;
        holds = λ well honest. c.requires.journal honest;
        left = λ honest left may. left-all c.args.journal g.C.Charges.settings c.args.durable.events c.again-tried.result.events c.requires.happened begins (c.requires.journal honest) left may;
        alone = λ well. refl;
        other_left = λ honest. tt;
        covered = λ well. omega arith;
      },
      tt,
    )
