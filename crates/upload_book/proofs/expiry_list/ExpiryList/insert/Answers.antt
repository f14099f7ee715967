use Rattle.std.proofs.Common.{◌≡◌, ◌≤◌, Bool, true, List, length, if◌then◌else◌, subst, sym, ◌∙◌, arith}
use Rattle.std.specs.List.{Contains, insert}
use Rattle.std.proofs.lemmas.List.Sorted.{IsPermutation-insert}
use Rattle.upload_book.specs.declared.expiry_list.Expiring.{Expiring}
use Rattle.upload_book.specs.ExpiryList.{ExpiryList, IsAscending}
use Rattle.upload_book.proofs.Expiries.ExpiryLemmas.{IsPlace, ascending-insert}
use Rattle.upload_book.proofs.expiry_list.ExpiryList.insert.Goals as goal
use Rattle.upload_book.proofs.expiry_list.ExpiryList.insert.Goals.{Else-prove}

-- an insertion that succeeds
inserted : (ok : Bool) (new put old : List Expiring) → new ≡ (if ok then put else old) → ok ≡ true → new ≡ put
inserted ok new put old is holds = rw holds at is

-- it was put at its place
put_in : (c : Else-prove) → c.insert-inserted.new.self.items ≡ insert c.self.inside.list.items c.place-place.result c.args.expiring
put_in c = inserted _ _ _ _ c.insert-inserted.ensures.items (sym c.is_ok.ensures.value ∙ c.if-prove.false)

-- so the list is in order
ordered : (c : Else-prove) → IsAscending c.insert-inserted.new.self.items
ordered c =
    let bound = subst (λ (l : ExpiryList). c.place-place.result ≤ length l.list) (sym c.self.view_is) c.place-place.ensures.bound in
    let place = subst (λ (l : ExpiryList). IsPlace l.list c.args.expiring c.place-place.result) (sym c.self.view_is) c.place-place.ensures.point in
    let new = subst (λ (l : ExpiryList). Contains l.list c.args.expiring → ⊥) (sym c.self.view_is) c.requires.new in
    subst IsAscending (sym (put_in c)) (ascending-insert c.self.inside.list.items c.args.expiring c.place-place.result c.self.invariant.ascending bound place new)

pub invariant_of-self : goal.invariant_of-self
invariant_of-self c = record {
  ascending = ordered c;
  room = omega (arith, c.self.invariant.room, c.insert-inserted.ensures.capacity);
}

pub returns-clause-ascending : goal.returns-clause-ascending
returns-clause-ascending c = ordered c

pub returns-clause-one_more : goal.returns-clause-one_more
returns-clause-one_more c =
    rw (put_in c, ← c.self.view_is) (IsPermutation-insert c.self.inside.list.items c.place-place.result c.args.expiring)
