use Rattle.std.proofs.Common.{◌≡◌, ◌<◌, true, get_or, length, subst, sym, arith}
use Rattle.std.specs.List.{Contains}
use Rattle.std.proofs.lemmas.List.Quantifiers.{all_pairs_remove}
use Rattle.std.proofs.lemmas.List.Sorted.{IsPermutation-remove}
use Rattle.upload_book.specs.ExpiryList.{ExpiryList, IsAscending, comes_before}
use Rattle.upload_book.proofs.Expiries.ExpiryLemmas.{IsPlace, at-place}
use Rattle.upload_book.proofs.expiry_list.ExpiryList.remove.Goals as goal
use Rattle.upload_book.proofs.expiry_list.ExpiryList.remove.Goals.{After-remove}

-- it stands at its place
here : (c : After-remove) → (c.place-place.result < length c.self.inside.list.items) × (get_or c.self.inside.list.items c.place-place.result c.args.expiring ≡ c.args.expiring)
here c =
    let place = subst (λ (l : ExpiryList). IsPlace l.list c.args.expiring c.place-place.result) (sym c.self.view_is) c.place-place.ensures.point in
    let there = subst (λ (l : ExpiryList). Contains l.list c.args.expiring) (sym c.self.view_is) c.requires in
    at-place c.self.inside.list.items c.args.expiring c.place-place.result c.self.invariant.ascending place there

-- and without it the list is in order
ordered : (c : After-remove) → IsAscending c.remove.new.self.items
ordered c =
    subst IsAscending (sym c.remove.ensures.items) (all_pairs_remove (λ x y. comes_before x y ≡ true) c.self.inside.list.items c.place-place.result (here c).0 c.self.invariant.ascending)

pub invariant_of-self : goal.invariant_of-self
invariant_of-self c = record {
  ascending = ordered c;
  room = omega (arith, c.self.invariant.room, c.remove.ensures.capacity);
}

pub returns-clause-ascending : goal.returns-clause-ascending
returns-clause-ascending c = ordered c

pub returns-clause-one_less : goal.returns-clause-one_less
returns-clause-one_less c =
    rw (c.remove.ensures.items, ← c.self.view_is) (IsPermutation-remove c.self.inside.list.items c.place-place.result c.args.expiring (here c).0 (sym (here c).1))
