use Rattle.tus_shared.proofs.QueueLemmas.{prefix-both}
use Rattle.tus_shared.proofs.queue.RecordQueue.begins_behind.Goals as goal

pub returns-then-no_less : goal.returns-then-no_less
returns-then-no_less c = λ both. rw (← c.self.view_is) (prefix-both c.args.from.now.events c.self.inside.behind.events (c.begins-no_less.ensures.begins c.if-no_less.true) (c.begins-no_more.ensures.begins both))
