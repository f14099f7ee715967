use Rattle.upload_book.proofs.PiecedCreationLemmas.{pieced_creation}
use Rattle.upload_book.proofs.laws.pieced_creation.Goals as goal

pub returns : goal.returns
returns c = pieced_creation
