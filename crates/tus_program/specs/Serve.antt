-- How `serve` ends. What is written on its connections is the workers' (`serve_stream` of `tus_workers`).
use Rattle.std.specs.Prelude.{◌≡◌, ◌⊎◌, ⊤, ℕ, ◌≤◌, ◌==◌, ◌&&◌, nat_lt, Bool, true, false, List, ◌++◌, length, take, IsSome, None, Result, Ok, Err}
use Rattle.std.specs.Io.KnownBytes.{Appends}
use Rattle.std.specs.Net.Grammar.{IsIpText}
use Rattle.std.specs.Option.{option_map_or}
use Rattle.std.specs.Net.ToAddrs.{IsHostAndPort}
use Rattle.std.specs.declared.net.ip_addr.IpAddr.{IpAddr}
use Rattle.std.specs.declared.net.socket_addr.SocketAddr.{SocketAddr}
use Rattle.tus_shared.specs.Desk.{Desk}
use Rattle.tus_shared.specs.declared.balance.Balance.{Balance}
use Rattle.upload_book.specs.Settings.{Settings}
use Rattle.upload_book.specs.declared.settings_fault.SettingsFault.{SettingsFault}
use Rattle.server_words.specs.Arguments.{ServeArguments, bounds_by}
use Rattle.server_words.specs.Settings.{settings_given}
use Rattle.journal_folders.specs.StreamUse.{StreamUse, IsAlive, IsUntouched}
use Rattle.server_words.specs.declared.cause.Cause.{Cause}
use Rattle.server_words.specs.declared.cause.Cause.TheVariants.{Input, Output, Port, Workers, Accept, Log, Metrics}
use Rattle.server_words.specs.declared.cause.PortFault.TheVariants.{NotHere}
use Rattle.server_words.specs.declared.journal_fault.JournalFault.{JournalFault}
use Rattle.server_words.specs.declared.journal_fault.JournalFault.TheVariants as journal
use Rattle.server_words.specs.declared.fault.RunFault.{RunFault}
use Rattle.server_words.specs.declared.fault.RunFault.TheVariants as run
use Rattle.tus_program.specs.Lines.{Settles, balance_text, listening_text}
use Rattle.tus_program.specs.Sockets.{AreUnstopped, HasFailed, HaveAccepted, Sockets}

-- the settings of the arguments, or their first fault; their bounds are wide where bodies are stored in pieces
abbrev pub serve_settings : ServeArguments → Result Settings SettingsFault
serve_settings arguments = settings_given (bounds_by arguments.work.piece) arguments.numbers arguments.tenants

-- the arguments ask for this address and port
abbrev pub IsPlaceAsked : ServeArguments → SocketAddr → Type 0
IsPlaceAsked arguments place = IsHostAndPort arguments.address arguments.port place

-- numbers are to be asked for at the port of the clients; port 0 is any that is free, and so no other's
abbrev pub has_port_twice : ServeArguments → Bool
has_port_twice arguments = option_map_or (λ port. nat_lt 0 port && port == arguments.port) arguments.metrics false

-- `serve` was asked for with these arguments; it has these sockets and this output
module _ {L A W : Type 0} (seen : Sockets L A) (arguments : ServeArguments) (output : StreamUse W) where
  -- The line that tells where the server listens was printed, and then the workers have ended, one at each of these desks; an
  -- accept of one of them failed, or not.
  pub record HaveEnded (desks : List Desk) (failed : Bool) : Type 0 where
    pub listener : L
    pub asked : IsPlaceAsked arguments (seen.asked listener)
    pub line : Appends output.before output.after (listening_text (seen.place listener))
    pub alive : IsAlive output
    pub acceptors : List A
    pub each_has_a_desk : length desks ≡ arguments.workers
    pub each_accepts : length acceptors ≡ arguments.workers
    pub unasked : arguments.metrics ≡ None → AreUnstopped seen acceptors
    pub accepted : failed ≡ false → HaveAccepted seen arguments.work.connections acceptors
    pub refused : failed ≡ true → HasFailed seen acceptors

-- `serve` was asked for with these arguments, and so with these settings; it has these sockets and this output
module _ {L A W : Type 0} (seen : Sockets L A) (arguments : ServeArguments) (s : Settings) (output : StreamUse W) where
  -- Both lines were printed: where the server listens, which is asked for by the arguments, and the balance of
  -- what the desks did, one for each worker. Each worker had one of these acceptors, and none was stopped where there is no port at
  -- which a stop can be asked for.
  pub record PrintsBoth (acceptors : List A) : Type 0 where
    pub listener : L
    pub asked : IsPlaceAsked arguments (seen.asked listener)
    pub desks : List Desk
    pub balance : Balance
    pub settled : Settles s desks balance
    pub each_has_a_desk : length desks ≡ arguments.workers
    pub each_accepts : length acceptors ≡ arguments.workers
    pub unasked : arguments.metrics ≡ None → AreUnstopped seen acceptors
    pub lines : Appends output.before output.after (listening_text (seen.place listener) ++ balance_text balance)
    pub alive : IsAlive output

  -- both lines were printed, and each worker accepted as many connections as it was to, or was stopped before
  pub record ServesEach : Type 0 where
    pub acceptors : List A
    pub prints : PrintsBoth acceptors
    pub accepted : HaveAccepted seen arguments.work.connections acceptors

  -- both lines were printed, and an accept failed
  pub record AcceptsNoMore : Type 0 where
    pub acceptors : List A
    pub prints : PrintsBoth acceptors
    pub failed : HasFailed seen acceptors

  -- the output has failed in the first line, of which a beginning was printed
  pub record BreaksFirstLine : Type 0 where
    pub listener : L
    pub asked : IsPlaceAsked arguments (seen.asked listener)
    pub n : ℕ
    pub within : n ≤ length (listening_text (seen.place listener))
    pub line : Appends output.before output.after (take n (listening_text (seen.place listener)))
    pub failed : output.has_failed ≡ true

  -- the first line was printed, and the output has failed in the second, of which a beginning was printed
  pub record BreaksSecondLine : Type 0 where
    pub listener : L
    pub asked : IsPlaceAsked arguments (seen.asked listener)
    pub desks : List Desk
    pub balance : Balance
    pub settled : Settles s desks balance
    pub n : ℕ
    pub within : n ≤ length (balance_text balance)
    pub lines : Appends output.before output.after (listening_text (seen.place listener) ++ take n (balance_text balance))
    pub failed : output.has_failed ≡ true

  -- What is printed where a socket, the log or the output failed, by the cause: nothing, where a port, a worker's socket or
  -- the log could not be had, or a line that broke off, or both lines, and then an accept failed.
  abbrev pub BreaksOff : Cause → Type 0
  BreaksOff Input = ⊥
  BreaksOff Output = BreaksFirstLine ⊎ BreaksSecondLine
  BreaksOff (Port why) = IsUntouched output
  BreaksOff Workers = IsUntouched output
  BreaksOff Accept = AcceptsNoMore
  BreaksOff Log = IsUntouched output
  BreaksOff Metrics = IsUntouched output

-- a fault that comes after the settings, the address and the ports were taken, with a journal or without one
abbrev pub is_of_kept_service : RunFault → Bool
is_of_kept_service run.Words = false
is_of_kept_service run.Address = false
is_of_kept_service run.Ports = false
is_of_kept_service (run.Settings why) = false
is_of_kept_service (run.Wire cause) = true
is_of_kept_service (run.Journal why) = true
is_of_kept_service run.Memory = true

-- the same without one
abbrev pub is_of_service : RunFault → Bool
is_of_service run.Words = false
is_of_service run.Address = false
is_of_service run.Ports = false
is_of_service (run.Settings why) = false
is_of_service (run.Wire cause) = true
is_of_service (run.Journal why) = false
is_of_service run.Memory = true

-- a fault that comes before anything is printed: memory was lacking, or a port, a socket or the log could not be had
abbrev pub is_before_listening : RunFault → Bool
is_before_listening run.Words = false
is_before_listening run.Address = false
is_before_listening run.Ports = false
is_before_listening (run.Settings why) = false
is_before_listening (run.Wire Input) = false
is_before_listening (run.Wire Output) = false
is_before_listening (run.Wire (Port why)) = true
is_before_listening (run.Wire Workers) = true
is_before_listening (run.Wire Accept) = false
is_before_listening (run.Wire Log) = true
is_before_listening (run.Wire Metrics) = true
is_before_listening (run.Journal why) = false
is_before_listening run.Memory = true

-- What was printed where the journal can't be had, or failed: nothing, unless it is that a read, a write or a sync failed,
-- which may be at any time.
abbrev pub KeepsQuiet : {W : Type 0} → StreamUse W → JournalFault → Type 0
KeepsQuiet output journal.Disk = ⊤
KeepsQuiet output journal.File = IsUntouched output
KeepsQuiet output journal.NoFolder = IsUntouched output
KeepsQuiet output journal.NoJournal = IsUntouched output
KeepsQuiet output journal.Busy = IsUntouched output
KeepsQuiet output (journal.Settings why) = IsUntouched output
KeepsQuiet output (journal.Damaged at len) = IsUntouched output
KeepsQuiet output (journal.Record number) = IsUntouched output
KeepsQuiet output (journal.Upload why) = IsUntouched output

-- what watches can't be had: the file of the log, or the port for numbers, or the machine has no such address
abbrev pub IsOfWatching : RunFault → Type 0
IsOfWatching fault = (fault ≡ run.Wire Log) ⊎ (fault ≡ run.Wire Metrics) ⊎ (fault ≡ run.Wire (Port NotHere))

-- `serve` was asked for with these arguments, with these sockets and this output
module _ {L A W : Type 0} (seen : Sockets L A) (arguments : ServeArguments) (output : StreamUse W) where
  -- it ended well: each worker accepted as many connections as it was to, or was stopped before, and both lines were printed
  pub record ServesAll : Type 0 where
    pub settings : Settings
    pub is_given : serve_settings arguments ≡ Ok settings
    pub apart : has_port_twice arguments ≡ false
    pub serves : ServesEach seen arguments settings output

  -- a socket or the output failed, by this cause
  pub record BreaksService (cause : Cause) : Type 0 where
    pub settings : Settings
    pub is_given : serve_settings arguments ≡ Ok settings
    pub apart : has_port_twice arguments ≡ false
    pub breaks : BreaksOff seen arguments settings output cause

  -- How `serve` ends: well, or a socket or its output failed, or it lacked the journal that it was asked for, or refused the
  -- settings, the address or the ports, or lacked memory to begin with. In the last four nothing was printed.
  abbrev pub ServeEnds : {T : Type 0} → Result T RunFault → Type 0
  ServeEnds (Ok _) = ServesAll
  ServeEnds (Err (run.Wire cause)) = BreaksService cause
  ServeEnds (Err (run.Settings why)) = (serve_settings arguments ≡ Err why) × IsUntouched output
  ServeEnds (Err run.Memory) = IsUntouched output
  ServeEnds (Err run.Address) = ((a : IpAddr) → ¬ (IsIpText arguments.address a)) × IsUntouched output
  ServeEnds (Err run.Ports) = (has_port_twice arguments ≡ true) × IsUntouched output
  ServeEnds (Err (run.Journal why)) = IsSome arguments.journal × KeepsQuiet output why
  ServeEnds (Err run.Words) = ⊥
