use Rattle.upload_book.proofs.LawsLemmas.{rows_follow}
use Rattle.upload_book.proofs.laws.rows_follow.Goals as goal

pub returns : goal.returns
returns c = rows_follow
