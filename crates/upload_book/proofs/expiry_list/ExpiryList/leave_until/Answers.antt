use Rattle.std.proofs.Common.{sym, subst, ◌∙◌, rules}
use Rattle.std.specs.Prelude.{nat_le}
use Rattle.std.proofs.lemmas.List.Sorted.{IsPartitionPoint-from_clause}
use Rattle.upload_book.specs.declared.expiry_list.Expiring.{Expiring}
use Rattle.upload_book.specs.ExpiryList.{ends_after, AreExpiring, ExpiryList}
use Rattle.upload_book.proofs.Expiries.EndsLemmas.{AreExpiring-after}
use Rattle.upload_book.proofs.Expiries.ExpiryLemmas.{until-parts}
use Rattle.upload_book.proofs.expiry_list.ExpiryList.leave_until.Goals as goal

pub returns-clause-ends : goal.returns-clause-ends
returns-clause-ends c = λ ends are.
    let list = c.self.inside.list.items in
    let partitioned = rw c.deref.ensures.value at c.partition_point-count.ensures.partitioned in
    let point = IsPartitionPoint-from_clause (λ (x : Expiring). nat_le x.at c.args.now) list c.partition_point-count.result partitioned (until-parts list c.args.now c.self.invariant.ascending) (λ a r q k. search rules) in
    let before : AreExpiring ends list = subst (λ (l : ExpiryList). AreExpiring ends l.list) (sym c.self.view_is) are in
    subst (AreExpiring (ends_after c.args.now ends)) (sym (c.drop-drain.ensures.items ∙ c.drain.ensures.kept)) (AreExpiring-after ends c.args.now c.partition_point-count.result list point before)
