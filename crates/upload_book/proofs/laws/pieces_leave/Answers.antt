use Rattle.upload_book.proofs.Restoring.PiecesLeft.{pieces_leave}
use Rattle.upload_book.proofs.laws.pieces_leave.Goals as goal

pub returns : goal.returns
returns c = pieces_leave
