use Rattle.std.proofs.Common.{None}
use Rattle.tus_workers_tests.proofs.tests.serving.served.Given as goal

abbrev pub ghosts-settle_after-C-Charges : goal.ghosts-settle_after-C-Charges
ghosts-settle_after-C-Charges g a = record { settings = a.settings; desks = a.desks; log = a.events.seen.book; journal = None }

abbrev pub ghosts-settle_after-C-Ledger : goal.ghosts-settle_after-C-Ledger
ghosts-settle_after-C-Ledger g a = record { name = a.charged.name; parts = a.charged.parts }

abbrev pub ghosts-settle_after-R-Ledger : goal.ghosts-settle_after-R-Ledger
ghosts-settle_after-R-Ledger g a = record { name = a.released.name; parts = a.released.parts }

abbrev pub ghosts-settle_after-M-Ledger : goal.ghosts-settle_after-M-Ledger
ghosts-settle_after-M-Ledger g a = record { name = a.made.name; parts = a.made.parts }
