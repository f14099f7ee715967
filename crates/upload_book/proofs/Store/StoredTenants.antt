-- A book over blocks in which one tenant's pieces change.
use Rattle.std.proofs.Common.{◌≡◌, ◌≢◌, ℕ, ◌+◌, ◌<◌, ◌≤◌, List, length, get_or, set, inl, inr, ap, sym, subst, ◌∙◌, arith}
use Rattle.std.specs.List.{sum_by, All}
use Rattle.std.proofs.lemmas.Bool.{cases_lt}
use Rattle.std.proofs.lemmas.List.{get_or_read}
use Rattle.std.proofs.lemmas.List.Elements.{All-set}
use Rattle.std.proofs.lemmas.List.Sums.{sum_by-set}
use Rattle.block_pool.specs.Blocks.{Blocks, size_of, count_at, free_in}
use Rattle.block_bodies.specs.Changes.{SameSizes}
use Rattle.upload_book.specs.Stored.{StoredTenant, pieces_of, places_on, charge_on, some_of, ArePieces, HoldsPieces}
use Rattle.upload_book.proofs.Charge.SumsBelow.{two-le-sum_by, some_of-none, some_of-some, some_of-le, some_of-zero, sum_by-alone, some_of-sum_by}
use Rattle.upload_book.proofs.Charge.InUse.{blocks_in_use}

-- a tenant's stored part is read where there is one
pub record IsStoredTenant (stored_tenants : List StoredTenant) (t : ℕ) (old : StoredTenant) : Type 0 where
  pub within : t < length stored_tenants
  pub read : old ≡ get_or stored_tenants t old

-- What is kept of the blocks of one tenant: its pieces are as they should be, and each block that stands in
-- them is held as often as it stands there, so by no other tenant.
pub record IsStoredOn (p : Blocks) (old : StoredTenant) : Type 0 where
  pub pieces : ArePieces p.block_size old.next (pieces_of old)
  pub counts : (b : ℕ) → 0 < places_on b old → count_at p b ≡ places_on b old

-- each stored part of a stored book is so
pub IsStoredOn-stored_tenant : (p : Blocks) (stored_tenants : List StoredTenant) (t : ℕ) (old : StoredTenant) → HoldsPieces p stored_tenants → IsStoredTenant stored_tenants t old → IsStoredOn p old
IsStoredOn-stored_tenant p stored_tenants t old kept is = record {
  pieces = subst (λ (s : StoredTenant). ArePieces p.block_size s.next (pieces_of s)) (sym is.read) (kept.pieces t old is.within);
  counts = λ b some.
      let here : places_on b old ≡ places_on b (get_or stored_tenants t old) = ap (places_on b) is.read in
      kept.counts b ∙ sum_by-alone (places_on b) stored_tenants t old is.within (kept.apart b) (omega arith) ∙ sym here;
}

-- a block of a stored part stands on no other
pub stored_tenants-apart : (p : Blocks) (stored_tenants : List StoredTenant) (t k : ℕ) (old other : StoredTenant) → HoldsPieces p stored_tenants → IsStoredTenant stored_tenants t old → IsStoredTenant stored_tenants k other → k ≢ t → (b : ℕ) → 0 < places_on b other → places_on b old ≡ 0
stored_tenants-apart p stored_tenants t k old other kept is there differs b some =
    let here : some_of (places_on b (get_or stored_tenants t old)) ≡ some_of (places_on b old) = ap (λ s. some_of (places_on b s)) (sym is.read) in
    let elsewhere : some_of (places_on b (get_or stored_tenants k old)) ≡ 1 =
    ap (λ s. some_of (places_on b s)) (sym (get_or_read stored_tenants k other there.within there.read old)) ∙ some_of-some (places_on b other) some in
    some_of-zero (places_on b old) (omega (arith, here, elsewhere, kept.apart b, two-le-sum_by (λ s. some_of (places_on b s)) stored_tenants t k old is.within there.within differs))

-- each block is held at least as often as it stands on a stored part
pub places_on-held : (p : Blocks) (old : StoredTenant) → IsStoredOn p old → (b : ℕ) → places_on b old ≤ count_at p b
places_on-held p old on b = elim (cases_lt 0 (places_on b old)) [
  | inl some ↦ omega (arith, on.counts b some)
  | inr none ↦ omega arith
]

-- What a step does that changes one stored part: the new pieces are as they should be, counts change as places on
-- the stored part do, and a block that is new on the stored part was free.
pub record Changes (p : Blocks) (old : StoredTenant) (q : Blocks) (s : StoredTenant) : Type 0 where
  pub sizes : SameSizes p q
  pub pieces : ArePieces q.block_size s.next (pieces_of s)
  pub counts : (b : ℕ) → count_at q b + places_on b old ≡ count_at p b + places_on b s
  pub fresh : (b : ℕ) → 0 < places_on b s → places_on b old ≡ 0 → count_at p b ≡ 0

-- it leaves a stored book
pub HoldsPieces-changed : (p : Blocks) (stored_tenants : List StoredTenant) (t : ℕ) (old : StoredTenant) (q : Blocks) (s : StoredTenant) → HoldsPieces p stored_tenants → IsStoredTenant stored_tenants t old → Changes p old q s → HoldsPieces q (set stored_tenants t s)
HoldsPieces-changed p stored_tenants t old q s kept is c = record {
  pieces =
      let others : All (λ s. ArePieces q.block_size s.next (pieces_of s)) stored_tenants =
      subst (λ size. All (λ s. ArePieces size s.next (pieces_of s)) stored_tenants) (sym c.sizes.bytes) kept.pieces in
      All-set (λ s. ArePieces q.block_size s.next (pieces_of s)) stored_tenants t s c.pieces others;
  counts = λ b.
      let here : places_on b (get_or stored_tenants t old) ≡ places_on b old = ap (places_on b) (sym is.read) in
      omega (arith, here, kept.counts b, c.counts b, sum_by-set (places_on b) stored_tenants t s old is.within);
  apart = λ b.
      let here : some_of (places_on b (get_or stored_tenants t old)) ≡ some_of (places_on b old) = ap (λ s. some_of (places_on b s)) (sym is.read) in
      let all : sum_by (λ s. some_of (places_on b s)) (set stored_tenants t s) + some_of (places_on b (get_or stored_tenants t old)) ≡ sum_by (λ s. some_of (places_on b s)) stored_tenants + some_of (places_on b s) =
      sum_by-set (λ s. some_of (places_on b s)) stored_tenants t s old is.within in
      elim (cases_lt 0 (places_on b s)) [
        | inr none ↦ omega (arith, all, kept.apart b, some_of-none (places_on b s) (omega arith))
        | inl some ↦ elim (cases_lt 0 (places_on b old)) [
          | inl before ↦ omega (arith, all, here, kept.apart b, some_of-le (places_on b s), some_of-some (places_on b old) before)
          | inr new ↦
              let free : sum_by (places_on b) stored_tenants ≡ 0 = sym (kept.counts b) ∙ c.fresh b some (omega arith) in
              let none : sum_by (λ s. some_of (places_on b s)) stored_tenants ≡ 0 =
              sym (some_of-sum_by (places_on b) stored_tenants (kept.apart b)) ∙ some_of-none (sum_by (places_on b) stored_tenants) free in
              omega (arith, all, none, some_of-le (places_on b s))
        ]
      ];
}

-- the free blocks and what the tenant pays are together as many as before
pub charge-changed : (p : Blocks) (stored_tenants : List StoredTenant) (t : ℕ) (old : StoredTenant) (q : Blocks) (s : StoredTenant) → HoldsPieces p stored_tenants → IsStoredTenant stored_tenants t old → Changes p old q s
    → free_in q + charge_on p.block_size s ≡ free_in p + charge_on p.block_size old
charge-changed p stored_tenants t old q s kept is c =
    let before : free_in p + sum_by (charge_on p.block_size) stored_tenants ≡ size_of p = blocks_in_use p stored_tenants kept in
    let after : free_in q + sum_by (charge_on p.block_size) (set stored_tenants t s) ≡ size_of q =
    subst (λ size. free_in q + sum_by (charge_on size) (set stored_tenants t s) ≡ size_of q) c.sizes.bytes (blocks_in_use q (set stored_tenants t s) (HoldsPieces-changed p stored_tenants t old q s kept is c)) in
    let here : charge_on p.block_size (get_or stored_tenants t old) ≡ charge_on p.block_size old = ap (charge_on p.block_size) (sym is.read) in
    sum_up _ _ _ _ _ _ _ _ before after c.sizes.blocks _ (sum_by-set (charge_on p.block_size) stored_tenants t s old is.within) here
  where
    sum_up : (f g a b m n x y : ℕ) → f + a ≡ m → g + b ≡ n → n ≡ m → (z : ℕ) → b + z ≡ a + y → z ≡ x → g + y ≡ f + x
    sum_up f g a b m n x y before after same z all here = omega arith
