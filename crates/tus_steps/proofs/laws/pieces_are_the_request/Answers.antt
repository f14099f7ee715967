use Rattle.tus_steps.proofs.CreationPiecesLemmas.{pieces_are_the_request}
use Rattle.tus_steps.proofs.laws.pieces_are_the_request.Goals as goal

pub returns : goal.returns
returns c = pieces_are_the_request
