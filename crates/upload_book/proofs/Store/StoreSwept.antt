-- The store where the uploads that have expired end.
use Rattle.std.proofs.Common.{◌≡◌, ℕ, zero, suc, ◌+◌, ◌-◌, ◌<◌, ◌≤◌, List, [], ◌∷◌, All, length, map, get_or, set, Some, refl, ap, sym, subst, ◌∙◌, arith}
use Rattle.std.specs.List.{flat_map, sum_by}
use Rattle.std.specs.List.Sorted.{IsPermutation}
use Rattle.std.specs.Prelude.{◌++◌, vec_capacity, vec_len}
use Rattle.std.proofs.lemmas.Bool.Decides.{nat_tests}
use Rattle.std.proofs.lemmas.List.Elements.{All-filter, All-weaker}
use Rattle.std.proofs.lemmas.List.Sums.{get_or-le-sum_by, sum_by-set}
use Rattle.std.proofs.Math.ListN.{length-map}
use Rattle.block_pool.specs.Blocks.{Blocks, free_in}
use Rattle.block_bodies.specs.Bodies.{IsHeld}
use Rattle.upload_book.specs.BlockStore.{part_at}
use Rattle.upload_book.specs.declared.block_store.BlockStore.TheInside.{Inside}
use Rattle.upload_book.specs.declared.stored_tenant.StoredTenant.{StoredTenant as KeptTenant}
use Rattle.upload_book.specs.inside.ChargeAfter.{left}
use Rattle.upload_book.specs.inside.Kept.{stored_tenant_of, store_of, HasUploadRoom, IsKept}
use Rattle.upload_book.specs.inside.Pieces.{HasOwnPiece}
use Rattle.upload_book.specs.inside.Swept.{EndsExpired, FindsRoom}
use Rattle.upload_book.specs.Stored.{StoredTenant, StoredUpload, entry_of, part_of, pieces_of, placed_in}
use Rattle.upload_book.specs.Sweep.{part_after_sweep}
use Rattle.upload_book.specs.TenantBook.{Entry, TenantBook}
use Rattle.upload_book.proofs.Charge.StoreChargeAfter.{part-swept}
use Rattle.upload_book.proofs.Lawful.LawfulFewer.{count_of}
use Rattle.upload_book.proofs.Store.Pieces.{kept_pieces}
use Rattle.upload_book.proofs.Store.StoreGone.{GivesUp, IsGivenUp, given-within}
use Rattle.upload_book.proofs.Store.StoreLemmas.{IsKind, IsPart, IsStoredTenant-part, order-part, own-part, room-part, stored_tenant_at-part}
use Rattle.upload_book.proofs.Store.StoredTenants.{IsStoredOn-stored_tenant, places_on-held}
use Rattle.upload_book.proofs.Store.SweptLemmas.{AreInOrder-swept, Leaves-swept, stays, swept_stored_tenant}

-- the blocks of a part's pieces are held
pub IsHeld-part : (v : Inside) (t : ℕ) (old : KeptTenant) → IsKept v → IsPart v t old → IsHeld v.pool (placed_in (pieces_of (stored_tenant_of old)))
IsHeld-part v t old kept is = record {
  each = places_on-held v.pool (stored_tenant_of old) (IsStoredOn-stored_tenant v.pool (store_of v).stored_tenants t (stored_tenant_of old) kept.stored (IsStoredTenant-part v t old is));
}

-- there is room for the boxes of all of its uploads
pub boxes-fit : (v : Inside) (t : ℕ) (old : KeptTenant) → IsKept v → IsPart v t old → All (FindsRoom (vec_len old.uploads + vec_len old.spare) (vec_capacity old.spare)) old.uploads.items
boxes-fit v t old kept is = All-weaker (IsKind v.room) (FindsRoom (vec_len old.uploads + vec_len old.spare) (vec_capacity old.spare)) fits old.uploads.items room.boxed
  where
    room : HasUploadRoom v.room old
    room = room-part v t old kept is

    fits : (e : Entry StoredUpload) → IsKind v.room e → FindsRoom (vec_len old.uploads + vec_len old.spare) (vec_capacity old.spare) e
    fits e kind boxed =
        let few : v.room ≤ 64 = grind (arith, nat_tests, sym kind ∙ boxed) in
        omega (arith, room.spare few, room.boxes few)

module _ (v : Inside) (t now : ℕ) (old swept : KeptTenant) (q : Blocks) (kept : IsKept v) (part : IsPart v t old) (ends : EndsExpired now v.pool old.uploads.items q swept.uploads.items) where
  -- those that have expired give up their pieces
  pub GivesUp-swept : GivesUp v t old (swept_stored_tenant now (stored_tenant_of old)) (flat_map kept_pieces ends.ended) (free_in q - free_in v.pool) q
  GivesUp-swept = record {
    part = part;
    leaves = Leaves-swept now (stored_tenant_of old) ends.ended (subst (λ entries. IsPermutation old.uploads.items (entries ++ ends.ended)) ends.left ends.others);
    gives = ends.gives;
  }

  -- the part is as it should be without them
  pub IsGivenUp-swept : (changed : KeptTenant) → changed.quota ≡ old.quota → changed.next ≡ old.next → changed.uploads ≡ swept.uploads → changed.charge ≡ old.charge - (free_in q - free_in v.pool) → HasUploadRoom v.room changed
      → IsGivenUp v old changed (swept_stored_tenant now (stored_tenant_of old)) (free_in q - free_in v.pool)
  IsGivenUp-swept changed quota next uploads charge room = record {
    stored_tenant = rw (quota, next, uploads, ends.left) refl;
    charge = omega (arith, charge, given-within v t old (swept_stored_tenant now (stored_tenant_of old)) (flat_map kept_pieces ends.ended) (free_in q - free_in v.pool) q kept GivesUp-swept);
    own = All-filter (stays now) HasOwnPiece old.uploads.items (own-part v t old kept part);
    order = AreInOrder-swept now (stored_tenant_of old) (order-part v t old kept part);
    room = room;
  }

  -- as the plain book has it
  pub plain-swept : part_of v.pool (swept_stored_tenant now (stored_tenant_of old)) ≡ part_after_sweep now (part_at (store_of v) t)
  plain-swept =
      part-swept v.pool now (stored_tenant_of old) ∙ ap (λ (s : StoredTenant). part_after_sweep now (part_of v.pool s)) (sym (stored_tenant_at-part v t old part))

-- as many of its uploads ended as it has fewer
pub count-swept : (v : Inside) (t now : ℕ) (old : KeptTenant) (ended : ℕ) (after : List (Entry StoredUpload)) → IsKept v → IsPart v t old → after ≡ left (Some now) old.uploads.items → ended + length after ≡ length old.uploads.items
    → ended + count_of (part_after_sweep now (part_at (store_of v) t)) ≡ count_of (part_at (store_of v) t)
count-swept v t now old ended after kept part is count =
    let here : part_at (store_of v) t ≡ part_of v.pool (stored_tenant_of old) = ap (part_of v.pool) (stored_tenant_at-part v t old part) in
    let swept : part_of v.pool (swept_stored_tenant now (stored_tenant_of old)) ≡ part_after_sweep now (part_at (store_of v) t) =
    part-swept v.pool now (stored_tenant_of old) ∙ ap (part_after_sweep now) (sym here) in
    omega (
      arith,
      count,
      ap length is,
      ap count_of here,
      ap count_of swept,
      length-map old.uploads.items (entry_of v.pool),
      length-map (left (Some now) old.uploads.items) (entry_of v.pool),
    )

module _ {X : Type 0} (f : X → X) where
  -- a list in which the first so many are mapped
  abbrev pub mapped_to : ℕ → List X → List X
  mapped_to zero xs = xs
  mapped_to (suc k) [] = []
  mapped_to (suc k) (x ∷ xs) = f x ∷ mapped_to k xs

  -- the next one is,
  pub mapped_to-next : (k : ℕ) (xs : List X) (d : X) → k < length xs → set (mapped_to k xs) k (f (get_or (mapped_to k xs) k d)) ≡ mapped_to (suc k) xs
  mapped_to-next zero [] d within = absurd (omega arith)
  mapped_to-next zero (x ∷ xs) d within = refl
  mapped_to-next (suc k) [] d within = absurd (omega arith)
  mapped_to-next (suc k) (x ∷ xs) d within = ap (λ rest. f x ∷ rest) (mapped_to-next k xs d (omega arith))

  -- until all are
  pub mapped_to-all : (k : ℕ) (xs : List X) → length xs ≤ k → mapped_to k xs ≡ map f xs
  mapped_to-all zero [] past = refl
  mapped_to-all zero (x ∷ xs) past = absurd (omega arith)
  mapped_to-all (suc k) [] past = refl
  mapped_to-all (suc k) (x ∷ xs) past = ap (λ rest. f x ∷ rest) (mapped_to-all k xs (omega arith))

  -- they are as many
  pub length-mapped_to : (k : ℕ) (xs : List X) → length (mapped_to k xs) ≡ length xs
  length-mapped_to zero xs = refl
  length-mapped_to (suc k) [] = refl
  length-mapped_to (suc k) (x ∷ xs) = omega (arith, length-mapped_to k xs)

-- What a sweep of one more part leaves: it is mapped, and so many more have ended.
pub record IsSweptOn (now : ℕ) (all before after : List TenantBook) (k uploads : ℕ) : Type 0 where
  pub plain : after ≡ mapped_to (part_after_sweep now) (k + 1) all
  pub ended : uploads + sum_by count_of after ≡ sum_by count_of before
  pub few : uploads ≤ sum_by count_of before

pub IsSweptOn-next : (now : ℕ) (all before after : List TenantBook) (k ended : ℕ) (d part : TenantBook) → k < length all → before ≡ mapped_to (part_after_sweep now) k all → part ≡ get_or before k d → after ≡ set before k (part_after_sweep now part)
    → ended + count_of (part_after_sweep now part) ≡ count_of part → IsSweptOn now all before after k ended
IsSweptOn-next now all before after k ended d part within first read is fewer =
    let inside : k < length before = omega (arith, within, ap length first, length-mapped_to (part_after_sweep now) k all) in
    let more : suc k ≡ k + 1 = omega arith in
    record {
      plain =
          is ∙ ap (λ (part : TenantBook). set before k (part_after_sweep now part)) read
          ∙ ap (λ (l : List TenantBook). set l k (part_after_sweep now (get_or l k d))) first ∙ mapped_to-next (part_after_sweep now) k all d within
          ∙ ap (λ n. mapped_to (part_after_sweep now) n all) more;
      ended = omega (arith, ap (sum_by count_of) is, ap count_of read, fewer, sum_by-set count_of before k (part_after_sweep now part) d inside);
      few = omega (arith, ap count_of read, fewer, get_or-le-sum_by count_of before k d inside);
    }
