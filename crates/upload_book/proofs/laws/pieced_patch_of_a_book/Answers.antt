use Rattle.upload_book.proofs.PiecesOfBookLemmas.{pieced_patch_of_book}
use Rattle.upload_book.proofs.laws.pieced_patch_of_a_book.Goals as goal

pub returns : goal.returns
returns c = pieced_patch_of_book
