use Rattle.std.proofs.Common.{◌≡◌, length, ap, rules}
use Rattle.journal_frames.specs.Frames.{frames, recovered}
use Rattle.journal_file.proofs.JournalLemmas.{journal_opened}
use Rattle.journal_file.proofs.journal.Journal.open.Goals as goal

pub returns-clause-opened : goal.returns-clause-opened
returns-clause-opened g c = λ clean.
    let found = c.in-Ok.ensures.recovered clean in
    let bytes = ap length found.bytes in
    let place : length (frames c.args.key (recovered c.args.key (g.D.Disk.seen c.args.disk))) ≡ c.len-end.result = search rules in
    journal_opened _ _ found.file place found.fits c.in-Ok.ensures.synced
