use Rattle.upload_book.proofs.PiecedCreationOfBookLemmas.{pieced_creation_of_book}
use Rattle.upload_book.proofs.laws.pieced_creation_of_a_book.Goals as goal

pub returns : goal.returns
returns c = pieced_creation_of_book
