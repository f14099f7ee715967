use Rattle.std.proofs.Common.{◌+◌, [], drop, refl}
use Rattle.journal_file.proofs.Bytes.{zeros-grown}
use Rattle.journal_file.proofs.JournalLemmas.{journal_synced}
use Rattle.journal_file.proofs.journal.Journal.create.Goals as goal

pub returns-clause-created : goal.returns-clause-created
returns-clause-created g c =
    let n = c.args.room + 16 in
    let seen = g.D.Disk.seen c.fill.new.disk in
    journal_synced _ [] (record { rest = drop (0 + n) seen; is = zeros-grown [] (g.D.Disk.seen c.set_len.new.self) seen n c.fill.ensures.others c.in_ok-fill.ensures.filled }) refl tt c.in_ok-fill.ensures.synced
