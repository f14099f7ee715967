use Rattle.upload_book.proofs.PiecesLemmas.{pieced_patch}
use Rattle.upload_book.proofs.laws.pieced_patch.Goals as goal

pub returns : goal.returns
returns c = pieced_patch
