use Rattle.upload_book.proofs.ContentsStayLemmas.{contents_stay}
use Rattle.upload_book.proofs.laws.contents_stay.Goals as goal

pub returns : goal.returns
returns c = contents_stay
