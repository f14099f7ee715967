use Rattle.upload_book.proofs.Heads.HeadsLemmas.{heads_follow}
use Rattle.upload_book.proofs.laws.heads_follow.Goals as goal

pub returns : goal.returns
returns c = heads_follow
