use Rattle.upload_book.proofs.LawsLemmas.{resumed_patch}
use Rattle.upload_book.proofs.laws.resumed_patch.Goals as goal

pub returns : goal.returns
returns c = resumed_patch
