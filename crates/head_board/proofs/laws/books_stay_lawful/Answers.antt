use Rattle.head_board.proofs.LawfulLemmas.{books_stay_lawful}
use Rattle.head_board.proofs.laws.books_stay_lawful.Goals as goal

pub returns : goal.returns
returns c = books_stay_lawful
