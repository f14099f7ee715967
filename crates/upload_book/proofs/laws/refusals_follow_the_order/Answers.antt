use Rattle.upload_book.proofs.Lawful.OrderLemmas.{follow_order}
use Rattle.upload_book.proofs.laws.refusals_follow_the_order.Goals as goal

pub returns : goal.returns
returns c = follow_order
