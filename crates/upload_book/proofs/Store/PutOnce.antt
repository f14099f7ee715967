-- Bytes that are put at the end of a body in which no block stands twice leave one in which none does: as many
-- blocks were taken as are new in it.
use Rattle.std.proofs.Common.{◌≡◌, ℕ, zero, suc, ◌+◌, ◌<◌, ◌≤◌, cond, eqb, List, length, refl, inl, inr, ap, sym, ◌∙◌, subst, arith}
use Rattle.std.proofs.lemmas.Bool.{cases_lt}
use Rattle.std.proofs.lemmas.Bool.Decides.{nat_tests, eqb_tells}
use Rattle.block_pool.specs.Blocks.{Blocks, size_of, count_at, free_in, places_of}
use Rattle.block_pool.proofs.BlocksLaws.{below_size, free_in-numbers, places_of-take}
use Rattle.block_bodies.specs.Bodies.{Chain, IsHeld, IsBodyOf, StandsOnce}
use Rattle.block_bodies.specs.Changes.{Puts}
use Rattle.upload_book.specs.Charge.{sum_below}
use Rattle.upload_book.proofs.Charge.InUse.{places-below}
use Rattle.upload_book.proofs.Charge.SumsBelow.{sum_below-same, sum_below-add, sum_by-range}

-- where terms are no larger and their sum is no less, they are the same
same-terms : (n : ℕ) (f g : ℕ → ℕ) → ((b : ℕ) → b < n → g b ≤ f b) → sum_below n f ≤ sum_below n g → (b : ℕ) → b < n → f b ≤ g b
same-terms zero f g larger few b l = absurd (omega arith)
same-terms (suc n) f g larger few b l =
    let rest : sum_below n g ≤ sum_below n f = smaller n f g (λ b l. larger b (omega arith)) in
    let last : g n ≤ f n = larger n (omega arith) in
    elim (eqb_tells b n) [
      | inl same ↦ subst (λ b. f b ≤ g b) (sym same.1) (omega arith)
      | inr differs ↦ same-terms n f g (λ b l. larger b (omega arith)) (omega arith) b (omega (arith, differs.1))
    ]
  where
    smaller : (n : ℕ) (f g : ℕ → ℕ) → ((b : ℕ) → b < n → g b ≤ f b) → sum_below n g ≤ sum_below n f
    smaller zero f g larger = omega arith
    smaller (suc n) f g larger = omega (arith, smaller n f g (λ b l. larger b (omega arith)), larger n (omega arith))

-- 1 for a free block
abbrev free_one : Blocks → ℕ → ℕ
free_one p b = cond (eqb (count_at p b) 0) 1 0

free-below : (p : Blocks) (n : ℕ) → size_of p ≡ n → free_in p ≡ sum_below n (free_one p)
free-below p n size =
    free_in-numbers p ∙ sum_by-range (size_of p) 0 _ ∙ sum_below-same (size_of p) _ _ (λ b l. ap (λ k. free_one p k) (omega arith)) ∙ ap (λ n. sum_below n (free_one p)) size

-- blocks that are held are the pool's
held-below : (p : Blocks) (n : ℕ) (list : List ℕ) → size_of p ≡ n → IsHeld p list → (b : ℕ) → n ≤ b → places_of b list ≡ 0
held-below p n list size held b past = elim (cases_lt 0 (places_of b list)) [
  | inl some ↦ absurd (omega (arith, below_size p b (omega (arith, held.each b))))
  | inr none ↦ omega arith
]

-- a block that is new in a body was free
one-term : (cp cq px py : ℕ) → cq + px ≡ cp + py → px ≤ cp → px ≤ py → (px < py → cp ≡ 0) → cond {A = ℕ} (eqb cp 0) 1 0 + px ≤ cond {A = ℕ} (eqb cq 0) 1 0 + py
one-term cp cq px py counts held front fresh = elim (cases_lt px py) [
  | inl more ↦ new cp cq px py counts held more (fresh more)
  | inr same ↦ old cp cq px py counts same front
]
  where
    new : (cp cq px py : ℕ) → cq + px ≡ cp + py → px ≤ cp → px < py → cp ≡ 0 → cond {A = ℕ} (eqb cp 0) 1 0 + px ≤ cond {A = ℕ} (eqb cq 0) 1 0 + py
    new cp cq px py counts held more free = grind (arith, nat_tests)

    old : (cp cq px py : ℕ) → cq + px ≡ cp + py → py ≤ px → px ≤ py → cond {A = ℕ} (eqb cp 0) 1 0 + px ≤ cond {A = ℕ} (eqb cq 0) 1 0 + py
    old cp cq px py counts same front =
        let places : px ≡ py = omega arith in
        let count : cq ≡ cp = omega arith in
        rw (places, count) (omega arith)

-- so it stands there once, if only one block became held
once-term : (cp cq px py : ℕ) → cq + px ≡ cp + py → px ≤ cp → (px < py → cp ≡ 0) → px ≤ 1 → cond {A = ℕ} (eqb cq 0) 1 0 + py ≤ cond {A = ℕ} (eqb cp 0) 1 0 + px → py ≤ 1
once-term cp cq px py counts held fresh once few = elim (cases_lt px py) [
  | inl more ↦ new cp cq px py counts held more (fresh more) few
  | inr same ↦ omega arith
]
  where
    new : (cp cq px py : ℕ) → cq + px ≡ cp + py → px ≤ cp → px < py → cp ≡ 0 → cond {A = ℕ} (eqb cq 0) 1 0 + py ≤ cond {A = ℕ} (eqb cp 0) 1 0 + px → py ≤ 1
    new cp cq px py counts held more free few = grind (arith, nat_tests)

-- no block stands twice in a body at whose end bytes were put, where none did before
pub put-once : (p : Blocks) (x : Chain) (bytes : List ℕ) (q : Blocks) (y : Chain) → Puts p x bytes q y → IsBodyOf p x → StandsOnce x.blocks → StandsOnce y.blocks
put-once p x bytes q y f body once = record {
  once = λ b. elim (cases_lt b (size_of p)) [
    | inl inside ↦
        once-term (count_at p b) (count_at q b) (places_of b x.blocks) (places_of b y.blocks) (f.counts b) (body.held.each b) (f.fresh b) (once.once b)
        (same-terms (size_of p) (λ b. free_one q b + places_of b y.blocks) (λ b. free_one p b + places_of b x.blocks)
        (λ b l. one-term (count_at p b) (count_at q b) (places_of b x.blocks) (places_of b y.blocks) (f.counts b) (body.held.each b) (front b) (f.fresh b))
        total b inside)
    | inr past ↦ omega (arith, held-below q (size_of p) y.blocks f.sizes.blocks f.body.held b past)
  ];
}
  where
    front : (b : ℕ) → places_of b x.blocks ≤ places_of b y.blocks
    front b = omega (arith, places_of-take b (length x.blocks) y.blocks, ap (places_of b) f.front)

    total : sum_below (size_of p) (λ b. free_one q b + places_of b y.blocks) ≤ sum_below (size_of p) (λ b. free_one p b + places_of b x.blocks)
    total =
        sum_up _ _ _ _ _ _ _ _ _ _
        (sum_below-add (size_of p) (λ b. free_one q b + places_of b y.blocks) (free_one q) (λ b. places_of b y.blocks) (λ b l. refl))
        (sum_below-add (size_of p) (λ b. free_one p b + places_of b x.blocks) (free_one p) (λ b. places_of b x.blocks) (λ b l. refl))
        (free-below q (size_of p) f.sizes.blocks) (free-below p (size_of p) refl)
        (places-below (size_of p) y.blocks (held-below q (size_of p) y.blocks f.sizes.blocks f.body.held)) (places-below (size_of p) x.blocks (held-below p (size_of p) x.blocks refl body.held))
        f.free
      where
        sum_up : (s t fq fp gq gp ly lx py px : ℕ) → s ≡ fq + py → t ≡ fp + px → gq ≡ fq → gp ≡ fp → py ≡ ly → px ≡ lx → gq + ly ≡ gp + lx → s ≤ t
        sum_up s t fq fp gq gp ly lx py px e f g h i j k = omega arith
