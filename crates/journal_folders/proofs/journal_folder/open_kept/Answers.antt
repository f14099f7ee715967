use Rattle.std.proofs.Common.{ap, ◌∙◌}
use Rattle.std.proofs.lemmas.Result.{IfOk-at_ok}
use Rattle.journal_frames.specs.Frames.{recovered}
use Rattle.journal_folders.specs.ProgramFault.{fault_of_kept}
use Rattle.journal_folders.specs.ReadJournal.{journal_key}
use Rattle.journal_folders.proofs.MappedLemmas.{mapped_ok}
use Rattle.journal_folders.proofs.journal_folder.open_kept.Goals as goal

-- the book was opened of what the disk had before the settings were looked at
pub returns-clause-opened : goal.returns-clause-opened
returns-clause-opened g c events happened records clean =
    let opened = mapped_ok fault_of_kept _ _ _ c.map_err.ensures.cases c.in_ok-kept.was in
    IfOk-at_ok _ opened c.open_or_create.ensures.opened events happened (ap (recovered journal_key) c.in_ok-check_settings.ensures.disk ∙ records) clean
