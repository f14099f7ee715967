use Rattle.http_wire.proofs.HistoryLemmas.{History-start}
use Rattle.connection_turns.proofs.client_connection.ClientConnection.new.Goals as goal

pub returns-clause-begins : goal.returns-clause-begins
returns-clause-begins c d fresh size piece = History-start d fresh
