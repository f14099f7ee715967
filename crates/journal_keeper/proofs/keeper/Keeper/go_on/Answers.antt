use Rattle.std.proofs.Common.{◌∙◌}
use Rattle.journal_keeper.proofs.keeper.Keeper.go_on.Goals as goal

pub replace-requires-clause-key : goal.replace-requires-clause-key
replace-requires-clause-key g c =
    let wanted = c.requires.keeps in
    let have = c.in-Ok.ensures c.args.self.now.key wanted.records wanted.have in
    c.in-Ok-finish.ensures.key ∙ have.key_is

pub replace-requires-clause-keeps : goal.replace-requires-clause-keeps
replace-requires-clause-keeps g c =
    let wanted = c.requires.keeps in
    record {
      records = wanted.records;
      holds = c.in-Ok-finish.ensures.journal c.args.self.now.key wanted.records (c.in-Ok.ensures c.args.self.now.key wanted.records wanted.have);
      make = wanted.make;
    }
