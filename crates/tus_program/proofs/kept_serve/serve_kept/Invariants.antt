use Rattle.std.proofs.Common.{Some}
use Rattle.journal_file.specs.Journal.{disk_of}
use Rattle.tus_program.proofs.kept_serve.serve_kept.Given as goal

-- the ledgers of this opening, under the key of the program's journals
abbrev pub ghosts-serve_journalled-C-Charges : goal.ghosts-serve_journalled-C-Charges
ghosts-serve_journalled-C-Charges g a = record { settings = a.settings; desks = a.options.now.workers; log = a.blanks.events.seen.book; journal = Some 8391740119571199346 }

abbrev pub ghosts-serve_journalled-C-Journalled : goal.ghosts-serve_journalled-C-Journalled
ghosts-serve_journalled-C-Journalled g a = record { honest = g.D.Disk.is_clean (disk_of a.journal.journal) }

abbrev pub ghosts-serve_journalled-C-Ledger : goal.ghosts-serve_journalled-C-Ledger
ghosts-serve_journalled-C-Ledger g a = record { name = a.blanks.charged.name; parts = a.blanks.charged.parts }

abbrev pub ghosts-serve_journalled-R-Ledger : goal.ghosts-serve_journalled-R-Ledger
ghosts-serve_journalled-R-Ledger g a = record { name = a.blanks.released.name; parts = a.blanks.released.parts }

abbrev pub ghosts-serve_journalled-M-Ledger : goal.ghosts-serve_journalled-M-Ledger
ghosts-serve_journalled-M-Ledger g a = record { name = a.blanks.made.name; parts = a.blanks.made.parts }
