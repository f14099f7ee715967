-- The blocks in use are those that the tenants pay.
use Rattle.std.proofs.Common.{◌≡◌, ◌≢◌, ◌⊎◌, ℕ, zero, suc, ◌+◌, ◌<◌, ◌≤◌, max, List, [], ◌∷◌, map, length, get_or, cond, eqb, refl, inl, inr, ap, sym, ◌∙◌, arith}
use Rattle.std.specs.List.{sum_by, All, Contains}
use Rattle.std.proofs.lemmas.Bool.{cases_lt}
use Rattle.std.proofs.lemmas.Bool.Decides.{nat_tests, eqb_tells}
use Rattle.std.proofs.lemmas.List.Sums.{get_or-le-sum_by}
use Rattle.block_pool.specs.Blocks.{Blocks, size_of, count_at, free_in, places_of}
use Rattle.block_pool.proofs.BlocksLaws.{below_size, free_in-numbers, places_of-append, places_of-cons, places_of-one_same, places_of-one_other}
use Rattle.block_bodies.specs.Bodies.{blocks_for}
use Rattle.upload_book.specs.Charge.{Source, sum_below, price, charge_of}
use Rattle.upload_book.specs.declared.pieces.Piece.{Piece}
use Rattle.upload_book.specs.Stored.{StoredTenant, pieces_of, placed_in, places_on, charge_on, some_of, Agree, IsPiece, ArePieces, HoldsPieces}
use Rattle.upload_book.proofs.Charge.SumsBelow.{sum_below-same, sum_below-add, sum_below-none, sum_below-ones, sum_below-one, sum_below-sum_by, sum_by-range, sum_by-same, some_of-sum_by}

-- the first element is one of the list
pub Contains-first : {X : Type 0} (x : X) (xs : List X) → Contains (x ∷ xs) x
Contains-first x xs = (0, omega arith, refl)

-- so is each one after it
pub Contains-later : {X : Type 0} (x y : X) (xs : List X) → Contains xs y → Contains (x ∷ xs) y
Contains-later x y xs c = (suc c.0, omega (arith, c.1), c.2)

-- it is the first one, or one of the others
pub Contains-cases : {X : Type 0} (x y : X) (xs : List X) → Contains (x ∷ xs) y → (x ≡ y) ⊎ Contains xs y
Contains-cases {X} x y xs c = at c.0 c.1 c.2 where
  at : (k : ℕ) → k < length (x ∷ xs) → get_or (x ∷ xs) k y ≡ y → (x ≡ y) ⊎ Contains xs y
  at zero l e = inl e
  at (suc k) l e = inr (k, omega arith, e)

-- nothing is one of no piece
pub Contains-none : {X : Type 0} (y : X) → Contains [] y → ⊥
Contains-none y c = omega (arith, c.1)

-- what the image of a list has is the image of something that the list has
pub Contains-mapped : {X Y : Type 0} (f : X → Y) (xs : List X) (y : Y) → Contains (map f xs) y → (x : X) × Contains xs x × (f x ≡ y)
Contains-mapped f [] y c = absurd (Contains-none y c)
Contains-mapped {X} {Y} f (x ∷ xs) y c = elim (Contains-cases (f x) y (map f xs) c) [
  | inl same ↦ (x, Contains-first x xs, same)
  | inr later ↦
      let found = Contains-mapped f xs y later in
      (found.0, Contains-later x found.0 xs found.1, found.2)
]

-- a block stands in the pieces where it stands in one of them
pub places-within : (b : ℕ) (xs : List Piece) (y : Piece) → Contains xs y → places_of b y.chain.blocks ≤ places_of b (placed_in xs)
places-within b [] y c = absurd (Contains-none y c)
places-within b (x ∷ xs) y c = elim (Contains-cases x y xs c) [
  | inl same ↦ omega (arith, places_of-append b x.chain.blocks (placed_in xs), ap (λ (z : Piece). places_of b z.chain.blocks) same)
  | inr later ↦ omega (arith, places_of-append b x.chain.blocks (placed_in xs), places-within b xs y later)
]

-- and only there
pub places-found : (b : ℕ) (xs : List Piece) → 0 < places_of b (placed_in xs) → (y : Piece) × Contains xs y × (0 < places_of b y.chain.blocks)
places-found b [] some = absurd (omega arith)
places-found b (x ∷ xs) some = elim (cases_lt 0 (places_of b x.chain.blocks)) [
  | inl here ↦ (x, Contains-first x xs, here)
  | inr none ↦
      let rest = places-found b xs (omega (arith, places_of-append b x.chain.blocks (placed_in xs))) in
      (rest.0, Contains-later x rest.0 xs rest.1, rest.2)
]

-- pieces of an origin are found, or there are none
origin-found : (origin : ℕ) (xs : List Piece) → ((y : Piece) × Contains xs y × (y.origin ≡ origin)) ⊎ ((y : Piece) → Contains xs y → y.origin ≢ origin)
origin-found origin [] = inr (λ y c. absurd (Contains-none y c))
origin-found origin (x ∷ xs) = elim (eqb_tells x.origin origin) [
  | inl same ↦ inl (x, Contains-first x xs, same.1)
  | inr differs ↦ elim (origin-found origin xs) [
    | inl found ↦ inl (found.0, Contains-later x found.0 xs found.1, found.2)
    | inr none ↦ inr (λ y c. elim (Contains-cases x y xs c) [
      | inl first ↦ λ e. differs.1 (ap (λ (z : Piece). z.origin) first ∙ e)
      | inr later ↦ none y later
    ])
  ]
]

-- a list whose numbers are below an end has as many numbers as its places
pub places-below : (n : ℕ) (list : List ℕ) → ((b : ℕ) → n ≤ b → places_of b list ≡ 0) → sum_below n (λ b. places_of b list) ≡ length list
places-below n [] below = sum_below-none n (λ b. 0) (λ b l. refl)
places-below n (c ∷ list) below =
    let rest : sum_below n (λ b. places_of b list) ≡ length list = places-below n list (λ b l. omega (arith, below b l, places_of-cons b c list)) in
    let inside : c < n = elim (cases_lt c n) [ inl l ↦ l | inr past ↦ absurd (omega (arith, below c past, places_of-cons c c list, places_of-one_same c)) ] in
    let first : sum_below n (λ b. places_of b (c ∷ [])) ≡ 1 = sum_below-one n c 1 (λ b. places_of b (c ∷ [])) inside (places_of-one_same c) (λ b other. places_of-one_other c b other) in
    omega (arith, rest, first, sum_below-add n (λ b. places_of b (c ∷ list)) (λ b. places_of b (c ∷ [])) (λ b. places_of b list) (λ b l. places_of-cons b c list))

-- a piece as it is paid
abbrev pub paid : Piece → Source
paid x = record { origin = x.origin; len = x.chain.len }

-- one more segment of an origin, or of another
abbrev dearer : ℕ → ℕ → ℕ → ℕ → ℕ
dearer a origin m r = cond (eqb a origin) (max m r) r

dearer-itself : (a origin m r : ℕ) → a ≡ origin → m ≤ dearer a origin m r
dearer-itself a origin m r same = grind (arith, nat_tests)

dearer-le : (a origin m r : ℕ) → r ≤ dearer a origin m r
dearer-le a origin m r = grind (arith, nat_tests)

dearer-other : (a origin m r : ℕ) → a ≢ origin → dearer a origin m r ≡ r
dearer-other a origin m r other = grind (arith, nat_tests)

dearer-within : (a origin m r : ℕ) → (a ≡ origin → m ≤ r) → dearer a origin m r ≡ r
dearer-within a origin m r within = elim (eqb_tells a origin) [
  | inl same ↦ dearer-same a origin m r same.1 (within same.1)
  | inr differs ↦ dearer-other a origin m r differs.1
]
  where
    dearer-same : (a origin m r : ℕ) → a ≡ origin → m ≤ r → dearer a origin m r ≡ r
    dearer-same a origin m r same within = grind (arith, nat_tests)

dearer-first : (a origin m r : ℕ) → (a ≡ origin → r ≡ 0) → dearer a origin m r ≡ cond (eqb a origin) m 0 + r
dearer-first a origin m r first = elim (eqb_tells a origin) [
  | inl same ↦ dearer-same a origin m r same.1 (first same.1)
  | inr differs ↦ dearer-differs a origin m r differs.1
]
  where
    dearer-same : (a origin m r : ℕ) → a ≡ origin → r ≡ 0 → dearer a origin m r ≡ cond (eqb a origin) m 0 + r
    dearer-same a origin m r same none = grind (arith, nat_tests)

    dearer-differs : (a origin m r : ℕ) → a ≢ origin → dearer a origin m r ≡ cond (eqb a origin) m 0 + r
    dearer-differs a origin m r other = grind (arith, nat_tests)

-- an origin costs at least what each segment of it takes
pub price-enough : (size origin : ℕ) (xs : List Piece) (y : Piece) → Contains xs y → y.origin ≡ origin → blocks_for size y.chain.len ≤ price size (map paid xs) origin
price-enough size origin [] y c same = absurd (Contains-none y c)
price-enough size origin (x ∷ xs) y c same =
    let m : ℕ = blocks_for size x.chain.len in
    let r : ℕ = price size (map paid xs) origin in
    elim (Contains-cases x y xs c) [
      | inl first ↦ omega (arith, dearer-itself x.origin origin m r (ap (λ (z : Piece). z.origin) first ∙ same), ap (λ (z : Piece). blocks_for size z.chain.len) first)
      | inr later ↦ omega (arith, dearer-le x.origin origin m r, price-enough size origin xs y later same)
    ]

-- and nothing where there is none
price-none : (size origin : ℕ) (xs : List Piece) → ((y : Piece) → Contains xs y → y.origin ≢ origin) → price size (map paid xs) origin ≡ 0
price-none size origin [] none = refl
price-none size origin (x ∷ xs) none =
    dearer-other x.origin origin (blocks_for size x.chain.len) (price size (map paid xs) origin) (none x (Contains-first x xs))
    ∙ price-none size origin xs (λ y c. none y (Contains-later x y xs c))

-- what stands elsewhere too adds nothing, what stands nowhere else adds itself
some_of-within : (a b c : ℕ) → c ≡ a + b → a ≤ b → some_of c ≡ some_of b
some_of-within a b c all within = grind (arith, nat_tests)

some_of-apart : (a b c : ℕ) → c ≡ a + b → a ≤ 1 → (0 < a → b ≡ 0) → some_of c ≡ a + some_of b
some_of-apart a b c all once apart = elim (cases_lt 0 a) [
  | inl some ↦ some_of-first a b c all once some (apart some)
  | inr none ↦ some_of-none_first a b c all none
]
  where
    some_of-first : (a b c : ℕ) → c ≡ a + b → a ≤ 1 → 0 < a → b ≡ 0 → some_of c ≡ a + some_of b
    some_of-first a b c all once some none = grind (arith, nat_tests)

    some_of-none_first : (a b c : ℕ) → c ≡ a + b → a ≤ 0 → some_of c ≡ a + some_of b
    some_of-none_first a b c all none = grind (arith, nat_tests)

-- how many blocks below an end stand in a list
abbrev used : ℕ → List ℕ → ℕ
used n list = sum_below n (λ b. some_of (places_of b list))

-- a piece of an origin that others have adds nothing to the blocks nor to the charge
used-within : (size n next : ℕ) (x y : Piece) (xs : List Piece) → Agree x y → Contains xs y → y.origin ≡ x.origin
    → (used n (placed_in (x ∷ xs)) ≡ used n (placed_in xs)) × (charge_of size next (map paid (x ∷ xs)) ≡ charge_of size next (map paid xs))
used-within size n next x y xs agree c same =
    let len : blocks_for size x.chain.len ≡ blocks_for size y.chain.len = ap (blocks_for size) (agree.len (sym same)) in (
      sum_below-same n _ _ (λ b l.
          let both : places_of b x.chain.blocks ≡ places_of b y.chain.blocks = ap (places_of b) (agree.blocks (sym same)) in
          some_of-within (places_of b x.chain.blocks) (places_of b (placed_in xs)) _ (places_of-append b x.chain.blocks (placed_in xs)) (omega (arith, places-within b xs y c))),
      sum_below-same next _ _ (λ origin l.
          dearer-within x.origin origin (blocks_for size x.chain.len) (price size (map paid xs) origin) (λ e. omega (arith, len, price-enough size origin xs y c (same ∙ e)))),
    )

-- a piece of an origin that no other has adds its blocks to both
used-apart : (size n next : ℕ) (x : Piece) (xs : List Piece) → IsPiece size next x → ((b : ℕ) → n ≤ b → places_of b x.chain.blocks ≡ 0) → ((b : ℕ) → 0 < places_of b x.chain.blocks → places_of b (placed_in xs) ≡ 0) → ((y : Piece) → Contains xs y → y.origin ≢ x.origin)
    → (used n (placed_in (x ∷ xs)) ≡ length x.chain.blocks + used n (placed_in xs)) × (charge_of size next (map paid (x ∷ xs)) ≡ length x.chain.blocks + charge_of size next (map paid xs))
used-apart size n next x xs piece below apart other =
    let m : ℕ = blocks_for size x.chain.len in
    let one : sum_below next (λ origin. cond (eqb x.origin origin) m 0) ≡ m =
    sum_below-one next x.origin m (λ origin. cond (eqb x.origin origin) m 0) piece.given (itself x.origin m) (λ origin differs. another x.origin origin m differs) in (
      sum_below-add n _ (λ b. places_of b x.chain.blocks) (λ b. some_of (places_of b (placed_in xs))) (λ b l.
          some_of-apart (places_of b x.chain.blocks) (places_of b (placed_in xs)) _ (places_of-append b x.chain.blocks (placed_in xs)) (piece.once.once b) (apart b))
          ∙ ap (λ k. k + used n (placed_in xs)) (places-below n x.chain.blocks below),
      sum_below-add next _ (λ origin. cond (eqb x.origin origin) m 0) (price size (map paid xs)) (λ origin l.
          dearer-first x.origin origin m (price size (map paid xs) origin) (λ e. price-none size origin xs (λ y c again. other y c (again ∙ sym e))))
          ∙ ap (λ k. k + charge_of size next (map paid xs)) (one ∙ sym piece.blocks),
    )
  where
    itself : (a m : ℕ) → cond (eqb a a) m 0 ≡ m
    itself a m = grind (arith, nat_tests)

    another : (a b m : ℕ) → b ≢ a → cond (eqb a b) m 0 ≡ 0
    another a b m differs = grind (arith, nat_tests)

-- the pieces after the first
pub ArePieces-later : (size next : ℕ) (x : Piece) (xs : List Piece) → ArePieces size next (x ∷ xs) → ArePieces size next xs
ArePieces-later size next x xs are = record {
  each = λ y c. are.each y (Contains-later x y xs c);
  agree = λ y z c d. are.agree y z (Contains-later x y xs c) (Contains-later x z xs d);
}

-- the blocks in which a tenant's pieces lie are as many as it pays
pub used-charge : (size n next : ℕ) (xs : List Piece) → ArePieces size next xs → ((b : ℕ) → n ≤ b → places_of b (placed_in xs) ≡ 0)
    → sum_below n (λ b. some_of (places_of b (placed_in xs))) ≡ charge_of size next (map paid xs)
used-charge size n next [] are below = sum_below-none n (λ b. 0) (λ b l. refl) ∙ sym (sum_below-none next (λ b. 0) (λ b l. refl))
used-charge size n next (x ∷ xs) are below =
    let rest : used n (placed_in xs) ≡ charge_of size next (map paid xs) =
    used-charge size n next xs (ArePieces-later size next x xs are) (λ b l. omega (arith, below b l, places_of-append b x.chain.blocks (placed_in xs))) in
    elim (origin-found x.origin xs) [
      | inl found ↦
          let both = used-within size n next x found.0 xs (are.agree x found.0 (Contains-first x xs) (Contains-later x found.0 xs found.1)) found.1 found.2 in
          both.0 ∙ rest ∙ sym both.1
      | inr none ↦
          let both = used-apart size n next x xs (are.each x (Contains-first x xs))
          (λ b l. omega (arith, below b l, places_of-append b x.chain.blocks (placed_in xs)))
          (λ b some. elim (cases_lt 0 (places_of b (placed_in xs))) [
            | inl again ↦
                let y = places-found b xs again in
                absurd (none y.0 y.1 (sym ((are.agree x y.0 (Contains-first x xs) (Contains-later x y.0 xs y.1)).apart b some y.2)))
            | inr no_place ↦ omega arith
          ])
          none in
          both.0 ∙ ap (λ k. length x.chain.blocks + k) rest ∙ sym both.1
    ]

-- a block past the last one stands nowhere
pub places_on-past : (p : Blocks) (stored_tenants : List StoredTenant) → HoldsPieces p stored_tenants → (b : ℕ) → size_of p ≤ b → All (λ s. places_on b s ≡ 0) stored_tenants
places_on-past p stored_tenants kept b past k d l = elim (cases_lt 0 (count_at p b)) [
  | inl held ↦ absurd (omega (arith, below_size p b held))
  | inr free ↦ omega (arith, kept.counts b, get_or-le-sum_by (places_on b) stored_tenants k d l)
]

-- each block is free or somebody holds it
free_or_some : (n : ℕ) → cond {A = ℕ} (eqb n 0) 1 0 + some_of n ≡ 1
free_or_some n = grind (arith, nat_tests)

-- the free blocks and those that the tenants pay are all blocks
pub blocks_in_use : (p : Blocks) (stored_tenants : List StoredTenant) → HoldsPieces p stored_tenants → free_in p + sum_by (charge_on p.block_size) stored_tenants ≡ size_of p
blocks_in_use p stored_tenants kept =
    let n : ℕ = size_of p in
    let free : free_in p ≡ sum_below n (λ b. cond (eqb (count_at p b) 0) 1 0) =
    free_in-numbers p ∙ sum_by-range n 0 _ ∙ sum_below-same n _ _ (λ b l. ap (λ k. cond (eqb (count_at p k) 0) 1 0) (omega arith)) in
    let all : n ≡ sum_below n (λ b. cond (eqb (count_at p b) 0) 1 0) + sum_below n (λ b. some_of (count_at p b)) =
    sym (sum_below-ones n (λ b. 1) (λ b l. refl)) ∙ sum_below-add n (λ b. 1) _ _ (λ b l. sym (free_or_some (count_at p b))) in
    let by_stored_tenant : sum_below n (λ b. some_of (count_at p b)) ≡ sum_below n (λ b. sum_by (λ s. some_of (places_on b s)) stored_tenants) =
    sum_below-same n _ _ (λ b l. ap some_of (kept.counts b) ∙ some_of-sum_by (places_on b) stored_tenants (kept.apart b)) in
    let swapped : sum_below n (λ b. sum_by (λ s. some_of (places_on b s)) stored_tenants) ≡ sum_by (λ s. sum_below n (λ b. some_of (places_on b s))) stored_tenants =
    sum_below-sum_by n (λ b s. some_of (places_on b s)) stored_tenants in
    let paid_for : sum_by (λ s. sum_below n (λ b. some_of (places_on b s))) stored_tenants ≡ sum_by (charge_on p.block_size) stored_tenants =
    sum_by-same _ _ stored_tenants (λ k d l.
    used-charge p.block_size n (get_or stored_tenants k d).next (pieces_of (get_or stored_tenants k d)) (kept.pieces k d l) (λ b past. places_on-past p stored_tenants kept b past k d l)) in
    sum_up _ _ _ _ _ _ _ free all by_stored_tenant swapped paid_for
  where
    sum_up : (f n g u v w c : ℕ) → f ≡ g → n ≡ g + u → u ≡ v → v ≡ w → w ≡ c → f + c ≡ n
    sum_up f n g u v w c free all by_stored_tenant swapped paid_for = omega arith
