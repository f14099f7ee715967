use Rattle.tus_shared.proofs.HeadLemmas.{looks-at}
use Rattle.tus_shared.proofs.desk.Desk.content_room.Goals as goal

pub returns-clause-desk : goal.returns-clause-desk
returns-clause-desk g c =
    let read = c.read_progress.ensures in
    looks-at g.C.Charges.settings c.args.name.now c.args.now c.read_progress.result c.args.self.now c.read_progress.new.self read.reads read.sees read.misses
