use Rattle.std.proofs.Common.{◌≡◌}
use Rattle.std.specs.List.Sorted.{IsPermutation}
use Rattle.std.specs.Prelude.{vec_capacity}
use Rattle.std.proofs.lemmas.List.Filters.{FiltersInPlace}
use Rattle.upload_book.specs.inside.ChargeAfter.{is_left}
use Rattle.upload_book.proofs.stored_tenant.gather_left.Given as goal

-- of the uploads so far those that are left stand first
abbrev pub invariant-loop-place : goal.invariant-loop-place
invariant-loop-place l = record {
  left : FiltersInPlace (λ e. is_left l.ended.at e.kept.expires) l.initial.uploads.items l.uploads.items l.left l.place;
  moved : IsPermutation l.initial.uploads.items l.uploads.items;
  capacity : vec_capacity l.uploads ≡ vec_capacity l.initial.uploads;
}
