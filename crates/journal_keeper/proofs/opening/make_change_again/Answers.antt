use Rattle.std.proofs.Common.{◌≡◌, true, false, length, rules}
use Rattle.book_replay.specs.Made.{can_be_made}
use Rattle.journal_keeper.proofs.OpeningLemmas.{taken-after, unasked-after}
use Rattle.journal_keeper.proofs.opening.make_change_again.Goals as goal

pub returns-then-not-can_be_made-clause-refused : goal.returns-then-not-can_be_made-clause-refused
returns-then-not-can_be_made-clause-refused g c = λ _.
    let not : can_be_made (length g.C.Charges.settings.tenants) c.args.change ≡ false = search rules in
    unasked-after g.C.Charges.settings c.args.store.now c.args.change c.args.now not

pub returns-in-Ok-clause-after : goal.returns-in-Ok-clause-after
returns-in-Ok-clause-after g c =
    let can : can_be_made (length g.C.Charges.settings.tenants) c.args.change ≡ true = search rules in
    taken-after g.C.Charges.settings c.args.store.now c.make_again.new.self c.args.desk.now.number c.args.change c.args.now can c.in-Ok.ensures.again
