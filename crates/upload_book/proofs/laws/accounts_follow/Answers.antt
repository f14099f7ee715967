use Rattle.upload_book.proofs.LawsLemmas.{accounts_follow}
use Rattle.upload_book.proofs.laws.accounts_follow.Goals as goal

pub returns : goal.returns
returns c = accounts_follow
