use Rattle.upload_book.proofs.Expiries.EndsLemmas.{AreExpiring-more}
use Rattle.std.proofs.lemmas.Option.{none-some}
use Rattle.upload_book.proofs.expiry_list.ExpiryList.enter.Goals as goal

pub insert-requires-clause-new : goal.insert-requires-clause-new
insert-requires-clause-new c = λ there. none-some c.in-Some.at ((c.requires.unknown c.in-Some.at).0 there)

pub returns-in-Some-clause-ends : goal.returns-in-Some-clause-ends
returns-in-Some-clause-ends c =
    λ ends is none. rw c.in-Some.is (AreExpiring-more ends (record { at = c.in-Some.at; name = c.args.name }) c.args.self.now.list c.insert.new.self.list is c.insert.ensures.ascending none c.insert.ensures.one_more)
