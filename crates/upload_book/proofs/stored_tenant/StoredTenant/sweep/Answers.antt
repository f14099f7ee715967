use Rattle.std.proofs.Common.{◌≡◌, ℕ, ◌+◌, ◌≤◌, true, List, All, Some, ap, sym, subst, ◌∙◌, length, vec_capacity, vec_len, length-take-le, arith}
use Rattle.std.proofs.lemmas.Bool.Decides.{nat_tests}
use Rattle.std.proofs.lemmas.List.Elements.{All-filter, All-weaker}
use Rattle.std.proofs.lemmas.List.Sorted.{All-permutation, length_permutation}
use Rattle.upload_book.specs.inside.ChargeAfter.{is_left}
use Rattle.upload_book.specs.inside.Swept.{FindsRoom, IsBoxed}
use Rattle.upload_book.specs.inside.Texts.{is_reserved}
use Rattle.upload_book.specs.Stored.{StoredUpload}
use Rattle.upload_book.specs.TenantBook.{Entry}
use Rattle.upload_book.proofs.Store.StoreLemmas.{IsKind}
use Rattle.upload_book.proofs.Store.SweptLemmas.{EndsExpired-moved, IsHeld-moved}
use Rattle.upload_book.proofs.stored_tenant.StoredTenant.sweep.Goals as goal

pub end_from-requires-clause-held : goal.end_from-requires-clause-held
end_from-requires-clause-held c =
    IsHeld-moved c.args.pool.now c.args.self.now.uploads.items c.gather_left-left.new.uploads.items c.gather_left-left.result c.gather_left-left.ensures.moved c.requires.held

pub end_from-requires-clause-room : goal.end_from-requires-clause-room
end_from-requires-clause-room c =
    let before = c.args.self.now.uploads in
    let moved = c.gather_left-left.new.uploads in
    let spare = c.args.self.now.spare in
    let same : vec_len before ≡ vec_len moved = omega (arith, length_permutation before.items moved.items c.gather_left-left.ensures.moved, before.ok.0, moved.ok.0) in
    subst (λ (count : ℕ). All (FindsRoom (count + vec_len spare) (vec_capacity spare)) moved.items) same
    (All-permutation (FindsRoom (vec_len before + vec_len spare) (vec_capacity spare)) before.items moved.items c.gather_left-left.ensures.moved c.requires.room)

pub overflow_sub-result : goal.overflow_sub-result
overflow_sub-result c =
    omega (
      arith,
      c.gather_left-left.ensures.within,
      c.len-before.ensures,
      length_permutation c.args.self.now.uploads.items c.gather_left-left.new.uploads.items c.gather_left-left.ensures.moved,
      c.args.self.now.uploads.ok.0,
    )

pub returns-clause-ends : goal.returns-clause-ends
returns-clause-ends c =
    EndsExpired-moved c.args.now c.args.pool.now c.args.self.now.uploads.items c.gather_left-left.new.uploads.items c.gather_left-left.result c.end_from.new.pool c.end_from.new.uploads.items
    c.gather_left-left.ensures.left c.gather_left-left.ensures.moved c.end_from.ensures.uploads c.end_from.ensures.gives

pub returns-clause-ended : goal.returns-clause-ended
returns-clause-ended c =
    omega (
      arith,
      c.gather_left-left.ensures.within,
      c.len-before.ensures,
      length_permutation c.args.self.now.uploads.items c.gather_left-left.new.uploads.items c.gather_left-left.ensures.moved,
      c.args.self.now.uploads.ok.0,
      ap length c.end_from.ensures.uploads,
      length-take-le c.gather_left-left.result c.gather_left-left.new.uploads.items c.gather_left-left.ensures.within,
    )

-- where there are boxes, the texts of each upload lie in one
all-boxed : (room : ℕ) (entries : List (Entry StoredUpload)) → room ≤ 64 → All (IsKind room) entries → All IsBoxed entries
all-boxed room entries few kinds = All-weaker (IsKind room) IsBoxed (λ e kind. kind ∙ reserved) entries kinds
  where
    reserved : is_reserved room ≡ true
    reserved = grind (arith, nat_tests)

pub returns-clause-room_stays : goal.returns-clause-room_stays
returns-clause-room_stays c = λ room has.
    let before = c.args.self.now.uploads in
    let moved = c.gather_left-left.new.uploads in
    let same : vec_len before ≡ vec_len moved = omega (arith, length_permutation before.items moved.items c.gather_left-left.ensures.moved, before.ok.0, moved.ok.0) in
    record {
      uploads = omega (arith, has.uploads, c.gather_left-left.ensures.capacity, c.end_from.ensures.capacity);
      boxed =
          subst (All (IsKind room)) (sym (c.end_from.ensures.uploads ∙ c.gather_left-left.ensures.left))
          (All-filter (λ (e : Entry StoredUpload). is_left (Some c.args.now) e.kept.expires) (IsKind room) before.items has.boxed);
      spare = λ few. omega (arith, has.spare few, c.end_from.ensures.spare_room);
      boxes = λ few.
          let each = all-boxed room moved.items few (All-permutation (IsKind room) before.items moved.items c.gather_left-left.ensures.moved has.boxed) in
          omega (arith, has.boxes few, c.end_from.ensures.boxes each, same);
    }
