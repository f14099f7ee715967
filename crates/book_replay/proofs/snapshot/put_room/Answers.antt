use Rattle.std.proofs.Common.{◌≡◌, true, drop, ap, subst, rules}
use Rattle.journal_frames.specs.Frames.{Fits}
use Rattle.book_replay.proofs.SnapshotLemmas.{fits_ok}
use Rattle.book_replay.proofs.snapshot.put_room.Goals as goal

pub returns-clause-fits : goal.returns-clause-fits
returns-clause-fits c =
    let short : c.fits_a_frame.result ≡ true = search rules in
    fits_ok c.match-push.result (drop 24 c.args.room.items) (subst Fits (ap (drop 24) c.deref.ensures.value) (c.fits_a_frame.ensures short))
