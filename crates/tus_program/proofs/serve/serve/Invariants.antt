use Rattle.std.proofs.Common.{None}
use Rattle.tus_program.proofs.serve.serve.Given as goal

-- the ledgers of this opening
abbrev pub ghosts-serve_with-C-Charges : goal.ghosts-serve_with-C-Charges
ghosts-serve_with-C-Charges g a = record { settings = a.settings; desks = a.options.now.workers; log = a.blanks.events.seen.book; journal = None }

abbrev pub ghosts-serve_with-C-Ledger : goal.ghosts-serve_with-C-Ledger
ghosts-serve_with-C-Ledger g a = record { name = a.blanks.charged.name; parts = a.blanks.charged.parts }

abbrev pub ghosts-serve_with-R-Ledger : goal.ghosts-serve_with-R-Ledger
ghosts-serve_with-R-Ledger g a = record { name = a.blanks.released.name; parts = a.blanks.released.parts }

abbrev pub ghosts-serve_with-M-Ledger : goal.ghosts-serve_with-M-Ledger
ghosts-serve_with-M-Ledger g a = record { name = a.blanks.made.name; parts = a.blanks.made.parts }
