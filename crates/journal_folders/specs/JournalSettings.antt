-- Whether a journal may be opened with the settings of a start, by the text of the settings beside it.
use Rattle.std.specs.Prelude.{◌≡◌, ◌⊎◌, ℕ, List, Option, Some, None, IsUtf8, ⊤}
use Rattle.clap.specs.Words.{Text}
use Rattle.upload_book.specs.Settings.{Settings}
use Rattle.server_words.specs.MayFollow.{MayFollow, difference_in, first_difference}
use Rattle.server_words.specs.SettingsFile.{AreLines, settings_given_by}
use Rattle.server_words.specs.declared.difference.Difference.{Difference}
use Rattle.server_words.specs.declared.fault.RunFault.{RunFault}
use Rattle.server_words.specs.declared.fault.RunFault.TheVariants as run
use Rattle.server_words.specs.declared.journal_fault.JournalFault.{JournalFault}
use Rattle.server_words.specs.declared.journal_fault.JournalFault.TheVariants as journal
use Rattle.server_words.specs.declared.journal_fault.Mismatch.{Mismatch}
use Rattle.server_words.specs.declared.journal_fault.Mismatch.TheVariants.{Missing, Unreadable, Differs, TooSmall}

-- the lines of a text give these settings, or none
pub record Gives (text : List ℕ) (found : Option Settings) : Type 0 where
  pub words : List Text
  pub lines : AreLines words text
  pub is_given : found ≡ settings_given_by words

-- the text gives settings that these may follow
pub record Follows (new : Settings) (text : List ℕ) : Type 0 where
  pub old : Settings
  pub gives : Gives text (Some old)
  pub may_follow : MayFollow old new

-- the text gives settings from which these first differ so
pub record Departs (new : Settings) (text : List ℕ) (difference : Difference) : Type 0 where
  pub old : Settings
  pub gives : Gives text (Some old)
  pub first_is : first_difference old new ≡ Some (difference_in difference)

-- the text is not UTF-8, or its lines give no settings
abbrev pub GivesNone : List ℕ → Type 0
GivesNone text = (¬ (IsUtf8 text)) ⊎ Gives text None

-- the text gives settings
abbrev pub GivesSome : List ℕ → Type 0
GivesSome text = (given : Settings) × Gives text (Some given)

-- the text gives no settings, or memory was lacking
abbrev pub IsUnreadable : List ℕ → RunFault → Type 0
IsUnreadable text (run.Journal (journal.Settings Unreadable)) = GivesNone text
IsUnreadable text run.Memory = ⊤
IsUnreadable text fault = ⊥

-- what is wrong with a text
abbrev pub IsWrong : Settings → List ℕ → Mismatch → Type 0
IsWrong new text Missing = ⊥
IsWrong new text Unreadable = GivesNone text
IsWrong new text (Differs difference) = Departs new text difference
IsWrong new text (TooSmall shortage) = ⊥

abbrev pub IsWrongFor : Settings → List ℕ → JournalFault → Type 0
IsWrongFor new text (journal.Settings why) = IsWrong new text why
IsWrongFor new text journal.File = ⊥
IsWrongFor new text journal.NoFolder = ⊥
IsWrongFor new text journal.NoJournal = ⊥
IsWrongFor new text journal.Busy = ⊥
IsWrongFor new text (journal.Damaged at len) = ⊥
IsWrongFor new text (journal.Record number) = ⊥
IsWrongFor new text journal.Disk = ⊥
IsWrongFor new text (journal.Upload why) = ⊥

-- why a journal with this text beside it is not opened with these settings, or memory was lacking
abbrev pub IsMismatch : Settings → List ℕ → RunFault → Type 0
IsMismatch new text run.Words = ⊥
IsMismatch new text run.Address = ⊥
IsMismatch new text run.Ports = ⊥
IsMismatch new text (run.Settings why) = ⊥
IsMismatch new text (run.Wire cause) = ⊥
IsMismatch new text (run.Journal why) = IsWrongFor new text why
IsMismatch new text run.Memory = ⊤
