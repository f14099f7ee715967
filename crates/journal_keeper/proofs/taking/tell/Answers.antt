use Rattle.journal_keeper.proofs.DeskLemmas.{only-told, same-seen}
use Rattle.journal_keeper.proofs.taking.tell.Goals as goal

pub returns-clause-desk : goal.returns-clause-desk
returns-clause-desk g c = only-told c.args.desk.now c.learn_kept.new.self c.args.durable.now.events c.learn_kept.ensures.learns c.learn_kept.ensures.stays

pub returns-clause-seen : goal.returns-clause-seen
returns-clause-seen g c = same-seen c.args.desk.now c.learn_kept.new.self c.args.durable.now.events c.learn_kept.ensures.learns c.learn_kept.ensures.stays
