use Rattle.std.proofs.Common.{Some, true}
use Rattle.journal_tests.proofs.tests.keeper.scenes.play_at.Given as goal

abbrev pub ghosts-play_scene-C-Journalled : goal.ghosts-play_scene-C-Journalled
ghosts-play_scene-C-Journalled g a = record { honest = true }

abbrev pub ghosts-play_scene-C-Charges : goal.ghosts-play_scene-C-Charges
ghosts-play_scene-C-Charges g a = record { settings = a.settings; desks = 2; log = a.events.seen.book; journal = Some 7 }

abbrev pub ghosts-play_scene-C-Ledger : goal.ghosts-play_scene-C-Ledger
ghosts-play_scene-C-Ledger g a = record { name = a.charged.name; parts = a.charged.parts }

abbrev pub ghosts-play_scene-R-Ledger : goal.ghosts-play_scene-R-Ledger
ghosts-play_scene-R-Ledger g a = record { name = a.released.name; parts = a.released.parts }

abbrev pub ghosts-play_scene-M-Ledger : goal.ghosts-play_scene-M-Ledger
ghosts-play_scene-M-Ledger g a = record { name = a.made.name; parts = a.made.parts }
