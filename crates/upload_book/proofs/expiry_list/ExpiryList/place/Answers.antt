use Rattle.std.proofs.Common.{rules}
use Rattle.std.proofs.lemmas.List.Sorted.{IsPartitionPoint-from_clause}
use Rattle.upload_book.specs.ExpiryList.{comes_before}
use Rattle.upload_book.proofs.Expiries.ExpiryLemmas.{before-parts}
use Rattle.upload_book.proofs.expiry_list.ExpiryList.place.Goals as goal

pub returns-clause-point : goal.returns-clause-point
returns-clause-point c =
    let parts = before-parts c.self.inside.list.items c.args.expiring.now c.self.invariant.ascending in
    let partitioned = rw c.deref.ensures.value at c.partition_point.ensures.partitioned in
    rw (← c.self.view_is) (IsPartitionPoint-from_clause (λ x. comes_before x c.args.expiring.now) c.self.inside.list.items c.partition_point.result partitioned parts (λ a r q k. search rules))
