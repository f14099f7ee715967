use Rattle.upload_book.proofs.Lawful.FinalLaw.{finals_stay}
use Rattle.upload_book.proofs.laws.finals_stay.Goals as goal

pub returns : goal.returns
returns c = finals_stay
