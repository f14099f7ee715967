-- What broke where a read, a write or a socket failed.
use Rattle.std.specs.Prelude.{◌≡◌, Bool, true}
use Rattle.std.specs.declared.io.ErrorKind.{ErrorKind}
use Rattle.std.specs.declared.io.ErrorKind.TheVariants as error
use Rattle.server_words.specs.declared.cause.Cause.{Cause}
use Rattle.server_words.specs.declared.cause.Cause.TheVariants.{Input, Output, Port, Workers, Accept, Log, Metrics}
use Rattle.server_words.specs.declared.cause.PortFault.{PortFault}
use Rattle.server_words.specs.declared.cause.PortFault.TheVariants.{Taken, Forbidden, NotHere, Refused}

-- what an error of listening says of the port
abbrev pub port_fault_of : ErrorKind → PortFault
port_fault_of error.AddrInUse = Taken
port_fault_of error.PermissionDenied = Forbidden
port_fault_of error.AddrNotAvailable = NotHere
port_fault_of _ = Refused

-- what an error of listening at the port for numbers is: where the machine has no such address, what it is at any port of it
abbrev pub metrics_cause_of : ErrorKind → Cause
metrics_cause_of error.AddrNotAvailable = Port NotHere
metrics_cause_of _ = Metrics

-- The cause names a stream that has failed, where these say whether the reader and the writer have: a conversation has no
-- other cause.
abbrev pub NamesCause : Bool → Bool → Cause → Type 0
NamesCause reader writer Input = reader ≡ true
NamesCause reader writer Output = writer ≡ true
NamesCause reader writer (Port why) = ⊥
NamesCause reader writer Workers = ⊥
NamesCause reader writer Accept = ⊥
NamesCause reader writer Log = ⊥
NamesCause reader writer Metrics = ⊥
