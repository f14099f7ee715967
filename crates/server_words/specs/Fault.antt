-- Why the program did not do what it was asked for: its exit status, and the line that names the fault.
use Rattle.std.specs.Prelude.{◌≡◌, ℕ, List, ◌++◌, Result, Err, ⊤, codes}
use Rattle.upload_book.specs.declared.settings_fault.SettingsFault.{SettingsFault}
use Rattle.upload_book.specs.Settings.{fault_word}
use Rattle.server_words.specs.JournalFault.{journal_word}
use Rattle.server_words.specs.declared.fault.RunFault.{RunFault}
use Rattle.server_words.specs.declared.fault.RunFault.TheVariants.{Words, Address, Ports, Settings, Wire, Journal, Memory}

-- the exit status of a run with this fault
abbrev pub status_of : RunFault → ℕ
status_of Words = 2
status_of Address = 2
status_of Ports = 2
status_of (Settings fault) = 2
status_of (Wire cause) = 3
status_of Memory = 4
status_of (Journal fault) = 5

-- what the line says of the fault
abbrev pub words_of : RunFault → List ℕ
words_of Words = codes "words"
words_of Address = codes "address"
words_of Ports = codes "words"
words_of (Settings fault) = codes "settings: " ++ fault_word fault
words_of (Wire cause) = codes "wire"
words_of (Journal fault) = codes "journal: " ++ journal_word fault
words_of Memory = codes "memory"

-- the line that names the fault: `tus-server: `, what it says, and LF
abbrev pub line_of : RunFault → List ℕ
line_of fault = codes "tus-server: " ++ words_of fault ++ codes "\n"

-- what was given has this fault, or memory was lacking
abbrev pub IsFaultOf : {T : Type 0} → Result T SettingsFault → RunFault → Type 0
IsFaultOf given Words = ⊥
IsFaultOf given Address = ⊥
IsFaultOf given Ports = ⊥
IsFaultOf given (Settings fault) = given ≡ Err fault
IsFaultOf given (Wire cause) = ⊥
IsFaultOf given (Journal why) = ⊥
IsFaultOf given Memory = ⊤
