use Rattle.std.proofs.Common.{◌∙◌, sym, arith}
use Rattle.std.proofs.lemmas.List.Filters.{FiltersInPlace-more_no, FiltersInPlace-more_swap}
use Rattle.std.proofs.lemmas.List.Sorted.{IsPermutation-swap, IsPermutation-trans}
use Rattle.upload_book.proofs.stored_tenant.gather_left.Goals.{then-is_left, else-is_left}
use Rattle.upload_book.proofs.stored_tenant.gather_left.Goals as goal

pub loop-place-preserved : goal.loop-place-preserved
loop-place-preserved c =
    let so_far = c.loop-place.invariant in
    elim c.if-is_left.branch [
      | then-is_left w ↦ rw (w.uploads-is, w.left-is) (record {
        left = FiltersInPlace-more_swap so_far.left (omega arith) (sym c.is_left.ensures ∙ w.if-is_left.true) c.index.ensures w.swap.ensures.by_index;
        moved = IsPermutation-trans _ _ _ so_far.moved (IsPermutation-swap _ _ c.loop-place.left c.loop-place.place (omega (arith, so_far.left.behind)) (omega arith) w.swap.ensures.items);
        capacity = w.swap.ensures.capacity ∙ so_far.capacity;
      })
      | else-is_left w ↦ rw (w.uploads-is, w.left-is) (record {
        left = FiltersInPlace-more_no so_far.left (omega arith) (sym c.is_left.ensures ∙ w.if-is_left.false) c.index.ensures;
        moved = so_far.moved;
        capacity = so_far.capacity;
      })
    ]
