use Rattle.std.proofs.Common.{Some}
use Rattle.tus_shared_tests.proofs.tests.journal.play_at.Given as goal

abbrev pub ghosts-play-C-Charges : goal.ghosts-play-C-Charges
ghosts-play-C-Charges g a = record { settings = a.settings; desks = 1; log = a.events.seen.book; journal = Some 7 }

abbrev pub ghosts-play-C-Ledger : goal.ghosts-play-C-Ledger
ghosts-play-C-Ledger g a = record { name = a.charged.name; parts = a.charged.parts }

abbrev pub ghosts-play-R-Ledger : goal.ghosts-play-R-Ledger
ghosts-play-R-Ledger g a = record { name = a.released.name; parts = a.released.parts }

abbrev pub ghosts-play-M-Ledger : goal.ghosts-play-M-Ledger
ghosts-play-M-Ledger g a = record { name = a.made.name; parts = a.made.parts }
