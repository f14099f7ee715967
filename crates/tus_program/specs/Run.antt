-- How a run of the program ends, from the words of its command line to its exit status.
use Rattle.std.specs.Prelude.{◌≡◌, ◌≢◌, ◌⊎◌, ℕ, Bool, true, List, [], Option, Some, None, Result}
use Rattle.std.specs.Io.KnownBytes.{Appends}
use Rattle.clap.specs.Words.{IsAmong, Text}
use Rattle.clap.specs.declared.error.kind.ErrorKind.{ErrorKind}
use Rattle.clap.specs.declared.error.kind.ErrorKind.TheVariants.{DisplayHelp, DisplayVersion, OutOfMemory}
use Rattle.journal_folders.specs.Export.{IsExported, IsFaultOfExport}
use Rattle.journal_folders.specs.ReadJournal.{IsChecked, IsFaultOfFiles, LookEnds}
use Rattle.server_words.specs.Arguments.{CommandArguments, TalkArguments, talk, serve, check, export, arguments_in}
use Rattle.server_words.specs.CommandLine.{faults_in}
use Rattle.server_words.specs.Explained.{told_if}
use Rattle.server_words.specs.Sentences.{output_text, untold_text, words_memory_text}
use Rattle.journal_folders.specs.StreamUse.{StreamUse, IsAlive, IsUntouched, WritesOrFails}
use Rattle.server_words.specs.declared.cause.Cause.TheVariants.{Output}
use Rattle.server_words.specs.declared.fault.RunFault.{RunFault}
use Rattle.server_words.specs.declared.fault.RunFault.TheVariants.{Words, Wire, Memory}
use Rattle.tus_program.specs.KeptTalk.{KeptTalkEnds}
use Rattle.tus_program.specs.Report.{Reports, WritesLines}
use Rattle.tus_program.specs.Serve.{ServeEnds}
use Rattle.tus_program.specs.Sockets.{Sockets}
use Rattle.tus_program.specs.Talk.{TalkEnds}

-- why words are not taken: memory was lacking, or they have this fault or ask for this
abbrev pub IsReason : List Text → ErrorKind → Type 0
IsReason words kind = (kind ≡ OutOfMemory) ⊎ IsAmong kind (faults_in words)

-- they ask for help, or for a version
abbrev pub IsHelp : ErrorKind → Type 0
IsHelp kind = (kind ≡ DisplayHelp) ⊎ (kind ≡ DisplayVersion)

-- words that are not taken were answered, by the reason for it, where standard error is watched or not
module _ {W E : Type 0} (kind : ErrorKind) (watched : Bool) (status : ℕ) (writer : StreamUse W) (errors : StreamUse E) where
  -- they were refused with this text, which was written to standard error, or, where that has failed, a prefix of it
  pub record RefusesWords (text : List ℕ) : Type 0 where
    pub status_is : status ≡ 2
    pub not_help : kind ≢ DisplayHelp
    pub not_memory : kind ≢ OutOfMemory
    pub untouched : IsUntouched writer
    pub said : WritesOrFails errors.before errors.after errors.has_failed text

  -- they asked for help, which is this text, and it was written
  pub record ShowsHelp (text : List ℕ) : Type 0 where
    pub status_is : status ≡ 0
    pub asked : IsHelp kind
    pub shown : Appends writer.before writer.after text
    pub alive : IsAlive writer
    pub quiet : IsUntouched errors

  -- they asked for help, which is this text, and it could not be written: a prefix of it was
  pub record FailsToShowHelp (text : List ℕ) : Type 0 where
    pub status_is : status ≡ 3
    pub asked : IsHelp kind
    pub shown : WritesOrFails writer.before writer.after writer.has_failed text
    pub failed : writer.has_failed ≡ true
    pub lines : WritesLines errors (Wire Output) (told_if watched output_text)

  -- the text for them was told
  abbrev pub Tells : List ℕ → Type 0
  Tells text = RefusesWords text ⊎ ShowsHelp text ⊎ FailsToShowHelp text

  -- they were refused, and memory was lacking for the text
  pub record RefusesUntold : Type 0 where
    pub status_is : status ≡ 2
    pub not_help : kind ≢ DisplayHelp
    pub not_memory : kind ≢ OutOfMemory
    pub untouched : IsUntouched writer
    pub lines : WritesLines errors Words (told_if watched untold_text)

  -- memory was lacking to read the words, or for the help that they asked for
  pub record EndsForMemory : Type 0 where
    pub status_is : status ≡ 4
    pub lacking : (kind ≡ OutOfMemory) ⊎ IsHelp kind
    pub untouched : IsUntouched writer
    pub lines : WritesLines errors Memory (told_if watched words_memory_text)

  -- the run explained itself in one of these three ways
  abbrev pub Explains : Type 0
  Explains = ((text : List ℕ) × Tells text) ⊎ RefusesUntold ⊎ EndsForMemory

-- over these sockets and disks, and folders, of which this is known: what comes of reading the one at a path; where standard
-- error is watched or not
module _ {L A D R W E : Type 0} (seen : Sockets L A) (read : D → List ℕ) (may_leave : D → List ℕ → Type 0) (is_clean : D → Bool)
    (finds : List ℕ → Result (List ℕ × List ℕ) RunFault → Type 0) (watched : Bool) (status : ℕ) (reader : StreamUse R) (writer : StreamUse W) (errors : StreamUse E) where
  -- how `talk` ends, with a journal or without one
  abbrev pub TalkEndsBy : {T : Type 0} → Option Text → TalkArguments → Result T RunFault → Type 0
  TalkEndsBy None arguments outcome = TalkEnds arguments reader writer outcome
  TalkEndsBy (Some path) arguments outcome = KeptTalkEnds read may_leave is_clean arguments reader writer outcome

  -- The command was done that the words ask for. Words that are taken ask for one, so far as clap's rules go; where they
  -- don't, they are refused, and no stream is touched.
  abbrev pub Performs : Option CommandArguments → Type 0
  Performs None = (status ≡ 2) × IsUntouched reader × IsUntouched writer × IsUntouched errors
  Performs (Some (talk arguments)) =
      (outcome : Result (Unit {0}) RunFault) × TalkEndsBy arguments.journal arguments outcome
      × Reports watched (talk arguments) outcome status errors
  Performs (Some (serve arguments)) =
      (outcome : Result (Unit {0}) RunFault) × ServeEnds seen arguments writer outcome × IsUntouched reader
      × Reports watched (serve arguments) outcome status errors
  Performs (Some (check folder)) =
      (outcome : Result (Unit {0}) RunFault) × LookEnds (finds folder) IsChecked IsFaultOfFiles writer outcome × IsUntouched reader
      × Reports watched (check folder) outcome status errors
  Performs (Some (export arguments)) =
      (outcome : Result (Unit {0}) RunFault)
      × LookEnds (finds arguments.folder) (IsExported arguments.upload) (IsFaultOfExport arguments.upload) writer outcome
      × IsUntouched reader × Reports watched (export arguments) outcome status errors

  -- how a run ends whose words are these
  pub data RunEnds (words : List Text) : Type 0 where
    explained : (kind : ErrorKind) → IsReason words kind → Explains kind watched status writer errors → IsUntouched reader → RunEnds words
    performed : faults_in words ≡ [] → Performs (arguments_in words) → RunEnds words
