use Rattle.http_wire.proofs.InPiecesLemmas.{pieces_are_a_turn}
use Rattle.http_wire.proofs.laws.pieces_are_a_turn.Goals as goal

pub returns : goal.returns
returns c = pieces_are_a_turn
