use Rattle.std.proofs.Common.{Option, ℕ, subst, ◌∙◌, arith}
use Rattle.std.proofs.lemmas.List.Sorted.{length_permutation}
use Rattle.upload_book.specs.ExpiryList.{KnowsEnd}
use Rattle.upload_book.proofs.Expiries.EndsLemmas.{AreExpiring-less, KnowsEnd-left}
use Rattle.upload_book.proofs.expiry_list.ExpiryList.leave.Goals as goal

pub remove-requires : goal.remove-requires
remove-requires c = (c.requires.known c.in-Some.at).1 c.in-Some.is

pub returns-in-Some-clause-ends : goal.returns-in-Some-clause-ends
returns-in-Some-clause-ends c =
    λ ends is told. AreExpiring-less ends (record { at = c.in-Some.at; name = c.args.name }) c.args.self.now.list c.remove.new.self.list is c.remove.ensures.ascending (told ∙ c.in-Some.is) c.remove.ensures.one_less c.remove.ensures.gone

pub returns-in-Some-clause-unknown : goal.returns-in-Some-clause-unknown
returns-in-Some-clause-unknown c =
    KnowsEnd-left c.args.self.now.list c.remove.new.self.list c.args.name c.in-Some.at (subst (λ (end : Option ℕ). KnowsEnd c.args.self.now.list c.args.name end) c.in-Some.is c.requires.known) c.remove.ensures.one_less c.remove.ensures.gone

pub returns-in-Some-clause-fewer : goal.returns-in-Some-clause-fewer
returns-in-Some-clause-fewer c = λ some. omega (arith, length_permutation c.args.self.now.list _ c.remove.ensures.one_less)

pub returns-in_default-clause-unknown : goal.returns-in_default-clause-unknown
returns-in_default-clause-unknown c =
    subst (λ (end : Option ℕ). KnowsEnd c.args.self.now.list c.args.name end) c.in_default.is c.requires.known
