-- Laws for the crates above: the counts, the bytes and the number of free blocks after each change of a pool,
-- and lists of blocks. A change of a count is said additively, by the places of the block in a list.
use Rattle.std.proofs.Common.{◌≡◌, ℕ, suc, ◌+◌, ◌*◌, ◌-◌, ◌<◌, ◌≤◌, List, [], ◌∷◌, ◌++◌, length, get_or, take, drop, cond, eqb, refl, ap, sym, ◌∙◌, subst, ⊎_elim, arith, zero-add, length-append, length-set}
use Rattle.std.specs.List.{remove, sum_by, All, range_with_len}
use Rattle.std.specs.Prelude.{◌==◌, nat_lt, count_by}
use Rattle.std.proofs.lemmas.List.Elements.{All-from_get_or}
use Rattle.std.proofs.lemmas.List.{get_or-set_same, get_or-set_other, get_or_past, set-get_or, take-append-drop}
use Rattle.std.proofs.lemmas.List.Sums.{sum_by-set, sum_by-append, sum_by-take-le, sum_by_more, sum_by-remove, sum_by-le, get_or-le-sum_by, count_by-le-length}
use Rattle.std.proofs.lemmas.List.Concat.{flat_map-append, flat_map-cons}
use Rattle.std.proofs.lemmas.Bool.{cases_eq, cases_lt, eq-eqb, ne_eqb}
use Rattle.std.proofs.lemmas.Bool.Decides.{nat_tests}
use Rattle.block_pool.specs.Blocks.{Block, Blocks, free_block, size_of, block_at, count_at, bytes_at, free_in, used_in, IsPool, Takes, with_block, held, released, written, over, places_of, bytes_of}

-- one block in the place of another
pub block_at-with_block_same : (p : Blocks) (b : ℕ) (x : Block) → b < size_of p → block_at (with_block p b x) b ≡ x
block_at-with_block_same p b x l = get_or-set_same p.blocks b x free_block l

pub block_at-with_block_other : (p : Blocks) (b c : ℕ) (x : Block) → (c ≡ b → ⊥) → block_at (with_block p b x) c ≡ block_at p c
block_at-with_block_other p b c x ne = get_or-set_other p.blocks b c x free_block ne

-- 1 for a free block, 0 for another
abbrev free_of : Block → ℕ
free_of x = cond (eqb x.count 0) 1 0

free_of-held : (x : Block) → 0 < x.count → free_of x ≡ 0
free_of-held x h = ap (λ t. cond t 1 0) (ne_eqb x.count 0 (omega arith))

pub free_in-with_block : (p : Blocks) (b : ℕ) (x : Block) → b < size_of p → free_in (with_block p b x) + free_of (block_at p b) ≡ free_in p + free_of x
free_in-with_block p b x l = sum_by-set free_of p.blocks b x free_block l

-- a block that somebody holds is one of the pool
pub below_size : (p : Blocks) (b : ℕ) → 0 < count_at p b → b < size_of p
below_size p b h = ⊎_elim
    (λ l. l)
    (λ past. absurd (let e : count_at p b ≡ 0 = ap (λ (x : Block). x.count) (get_or_past p.blocks b free_block past) in omega arith))
    (cases_lt b (size_of p))

-- the places of a block in a list
pub places_of-one_same : (b : ℕ) → places_of b (b ∷ []) ≡ 1
places_of-one_same b = ap (λ t. 0 + cond t 1 0) (eq-eqb b b refl)

pub places_of-one_other : (b c : ℕ) → (c ≡ b → ⊥) → places_of c (b ∷ []) ≡ 0
places_of-one_other b c ne = ap (λ t. 0 + cond t 1 0) (ne_eqb b c (λ e. ne (sym e)))

pub places_of-append : (c : ℕ) (xs ys : List ℕ) → places_of c (xs ++ ys) ≡ places_of c xs + places_of c ys
places_of-append c xs ys = sum_by-append (λ x. cond (eqb x c) 1 0) xs ys

pub places_of-cons : (c b : ℕ) (xs : List ℕ) → places_of c (b ∷ xs) ≡ places_of c (b ∷ []) + places_of c xs
places_of-cons c b xs = places_of-append c (b ∷ []) xs

pub places_of-take : (c i : ℕ) (xs : List ℕ) → places_of c (take i xs) ≤ places_of c xs
places_of-take c i xs = sum_by-take-le (λ x. cond (eqb x c) 1 0) xs i

one_place : (c b : ℕ) → cond (eqb b c) 1 0 ≡ places_of c (b ∷ [])
one_place c b = sym (zero-add (cond (eqb b c) 1 0))

pub places_of-take_more : (c i : ℕ) (xs : List ℕ) → i < length xs → places_of c (take (i + 1) xs) ≡ places_of c (take i xs) + places_of c (get_or xs i 0 ∷ [])
places_of-take_more c i xs l = sum_by_more (λ x. cond (eqb x c) 1 0) xs i 0 l ∙ ap (λ n. places_of c (take i xs) + n) (one_place c (get_or xs i 0))

pub places_of-remove : (c i : ℕ) (xs : List ℕ) → i < length xs → places_of c (remove xs i) + places_of c (get_or xs i 0 ∷ []) ≡ places_of c xs
places_of-remove c i xs l = ap (λ n. places_of c (remove xs i) + n) (sym (one_place c (get_or xs i 0))) ∙ sum_by-remove (λ x. cond (eqb x c) 1 0) xs i 0 l

pub places_of-at : (i : ℕ) (xs : List ℕ) → i < length xs → 0 < places_of (get_or xs i 0) xs
places_of-at i xs l =
    omega (arith, get_or-le-sum_by (λ x. cond (eqb x (get_or xs i 0)) 1 0) xs i 0 l, ap (λ t. cond {A = ℕ} t 1 0) (eq-eqb (get_or xs i 0) (get_or xs i 0) refl))

-- what holds of the new block, and of the others as they were, holds of each block
by_block : (p : Blocks) (b c : ℕ) (x : Block) → b < size_of p → (P : Block → Type 0) → (c ≡ b → P x) → ((c ≡ b → ⊥) → P (block_at p c)) → P (block_at (with_block p b x) c)
by_block p b c x l P here there = ⊎_elim
    (λ (e : c ≡ b). rw e (rw (block_at-with_block_same p b x l) (here e)))
    (λ ne. rw (block_at-with_block_other p b c x ne) (there ne))
    (cases_eq c b)

-- a free block is taken
pub count_at-taken : (p q : Blocks) (b : ℕ) → Takes p q b → (c : ℕ) → count_at q c ≡ count_at p c + places_of c (b ∷ [])
count_at-taken p q b t c =
    let P : Block → Type 0 = λ x. x.count ≡ count_at p c + places_of c (b ∷ []) in
    ap (λ (r : Blocks). count_at r c) t.after
    ∙ by_block p b c (record { count = 1; bytes = bytes_at q b }) t.within P
    (λ e. rw e (omega (arith, t.free, places_of-one_same b)))
    (λ ne. omega (arith, places_of-one_other b c ne))

pub bytes_at-taken : (p q : Blocks) (b : ℕ) → Takes p q b → (c : ℕ) → (c ≡ b → ⊥) → bytes_at q c ≡ bytes_at p c
bytes_at-taken p q b t c ne =
    ap (λ (r : Blocks). bytes_at r c) t.after
    ∙ ap (λ (x : Block). x.bytes) (block_at-with_block_other p b c (record { count = 1; bytes = bytes_at q b }) ne)

pub free_in-taken : (p q : Blocks) (b : ℕ) → Takes p q b → free_in q + 1 ≡ free_in p
free_in-taken p q b t =
    let x : Block = record { count = 1; bytes = bytes_at q b } in
    omega (arith, ap (λ (r : Blocks). free_in r) t.after, free_in-with_block p b x t.within, ap (λ n. cond {A = ℕ} (eqb n 0) 1 0) t.free)

pub size_of-taken : (p q : Blocks) (b : ℕ) → Takes p q b → size_of q ≡ size_of p
size_of-taken p q b t = ap (λ (r : Blocks). size_of r) t.after ∙ length-set p.blocks b (record { count = 1; bytes = bytes_at q b })

pub block_size-taken : (p q : Blocks) (b : ℕ) → Takes p q b → q.block_size ≡ p.block_size
block_size-taken p q b t = ap (λ (r : Blocks). r.block_size) t.after

-- bytes that a block begins with already are written there, and nothing changes
pub written-same : (p : Blocks) (b : ℕ) (new : List ℕ) → take (length new) (bytes_at p b) ≡ new → written p b 0 new ≡ p
written-same p b new first =
    let bytes : over (bytes_at p b) 0 new ≡ bytes_at p b =
    ap (λ (front : List ℕ). front ++ drop (0 + length new) (bytes_at p b)) (sym first)
    ∙ ap (λ n. take (length new) (bytes_at p b) ++ drop n (bytes_at p b)) (zero-add (length new)) ∙ take-append-drop (length new) (bytes_at p b) in
    ap (λ (bs : List ℕ). with_block p b (record { count = count_at p b; bytes = bs })) bytes
    ∙ ap (λ (blocks : List Block). record p { blocks = blocks }) (set-get_or p.blocks b free_block)

-- a held block is held once more
pub count_at-held : (p : Blocks) (b : ℕ) → 0 < count_at p b → (c : ℕ) → count_at (held p b) c ≡ count_at p c + places_of c (b ∷ [])
count_at-held p b h c =
    let P : Block → Type 0 = λ x. x.count ≡ count_at p c + places_of c (b ∷ []) in
    by_block p b c (record { count = count_at p b + 1; bytes = bytes_at p b }) (below_size p b h) P
    (λ e. rw e (omega (arith, places_of-one_same b)))
    (λ ne. omega (arith, places_of-one_other b c ne))

pub bytes_at-held : (p : Blocks) (b : ℕ) → 0 < count_at p b → (c : ℕ) → bytes_at (held p b) c ≡ bytes_at p c
bytes_at-held p b h c =
    let P : Block → Type 0 = λ x. x.bytes ≡ bytes_at p c in
    by_block p b c (record { count = count_at p b + 1; bytes = bytes_at p b }) (below_size p b h) P
    (λ e. ap (λ d. bytes_at p d) (sym e))
    (λ ne. refl)

pub free_in-held : (p : Blocks) (b : ℕ) → 0 < count_at p b → free_in (held p b) ≡ free_in p
free_in-held p b h =
    let x : Block = record { count = count_at p b + 1; bytes = bytes_at p b } in
    omega (arith, free_in-with_block p b x (below_size p b h), free_of-held (block_at p b) h, free_of-held x (omega arith))

pub size_of-with_block : (p : Blocks) (b : ℕ) (x : Block) → size_of (with_block p b x) ≡ size_of p
size_of-with_block p b x = length-set p.blocks b x

-- a held block is held once less
released-last : (p : Blocks) (b : ℕ) → count_at p b ≡ 1 → released p b ≡ with_block p b free_block
released-last p b one = ap (λ t. with_block p b (cond t free_block (record { count = count_at p b - 1; bytes = bytes_at p b }))) (eq-eqb (count_at p b) 1 one)

released-kept : (p : Blocks) (b : ℕ) → (count_at p b ≡ 1 → ⊥) → released p b ≡ with_block p b (record { count = count_at p b - 1; bytes = bytes_at p b })
released-kept p b more = ap (λ t. with_block p b (cond t free_block (record { count = count_at p b - 1; bytes = bytes_at p b }))) (ne_eqb (count_at p b) 1 more)

by_release : (p : Blocks) (b : ℕ) (P : Blocks → Type 0) → (count_at p b ≡ 1 → P (with_block p b free_block)) → ((count_at p b ≡ 1 → ⊥) → P (with_block p b (record { count = count_at p b - 1; bytes = bytes_at p b }))) → P (released p b)
by_release p b P last kept = ⊎_elim
    (λ one. subst P (sym (released-last p b one)) (last one))
    (λ more. subst P (sym (released-kept p b more)) (kept more))
    (cases_eq (count_at p b) 1)

pub count_at-released : (p : Blocks) (b : ℕ) → 0 < count_at p b → (c : ℕ) → count_at (released p b) c + places_of c (b ∷ []) ≡ count_at p c
count_at-released p b h c =
    let P : Block → Type 0 = λ x. x.count + places_of c (b ∷ []) ≡ count_at p c in
    let Q : Blocks → Type 0 = λ q. P (block_at q c) in
    by_release p b Q
    (λ one. by_block p b c free_block (below_size p b h) P
    (λ e. rw e (omega (arith, places_of-one_same b)))
    (λ ne. omega (arith, places_of-one_other b c ne)))
    (λ more. by_block p b c (record { count = count_at p b - 1; bytes = bytes_at p b }) (below_size p b h) P
    (λ e. rw e (omega (arith, places_of-one_same b)))
    (λ ne. omega (arith, places_of-one_other b c ne)))

pub bytes_at-released : (p : Blocks) (b : ℕ) → 0 < count_at p b → (c : ℕ) → 0 < count_at (released p b) c → bytes_at (released p b) c ≡ bytes_at p c
bytes_at-released p b h c =
    let P : Block → Type 0 = λ x. 0 < x.count → x.bytes ≡ bytes_at p c in
    let Q : Blocks → Type 0 = λ q. P (block_at q c) in
    by_release p b Q
    (λ one. by_block p b c free_block (below_size p b h) P (λ e k. absurd (omega arith)) (λ ne k. refl))
    (λ more. by_block p b c (record { count = count_at p b - 1; bytes = bytes_at p b }) (below_size p b h) P
    (λ e k. ap (λ d. bytes_at p d) (sym e)) (λ ne k. refl))

pub free_in-released : (p : Blocks) (b : ℕ) → 0 < count_at p b → free_in (released p b) ≡ free_in p + cond (eqb (count_at p b) 1) 1 0
free_in-released p b h =
    let Q : Blocks → Type 0 = λ q. free_in q ≡ free_in p + cond (eqb (count_at p b) 1) 1 0 in
    let x : Block = record { count = count_at p b - 1; bytes = bytes_at p b } in
    let was : free_of (block_at p b) ≡ 0 = free_of-held (block_at p b) h in
    by_release p b Q
    (λ one. omega (arith, free_in-with_block p b free_block (below_size p b h), was, ap (λ t. cond {A = ℕ} t 1 0) (eq-eqb (count_at p b) 1 one)))
    (λ more. omega (arith, free_in-with_block p b x (below_size p b h), was, free_of-held x (omega arith), ap (λ t. cond {A = ℕ} t 1 0) (ne_eqb (count_at p b) 1 more)))

-- a block has other bytes
pub count_at-written : (p : Blocks) (b at : ℕ) (new : List ℕ) → 0 < count_at p b → (c : ℕ) → count_at (written p b at new) c ≡ count_at p c
count_at-written p b at new h c =
    let P : Block → Type 0 = λ x. x.count ≡ count_at p c in
    by_block p b c (record { count = count_at p b; bytes = over (bytes_at p b) at new }) (below_size p b h) P
    (λ e. ap (λ d. count_at p d) (sym e)) (λ ne. refl)

pub bytes_at-written_same : (p : Blocks) (b at : ℕ) (new : List ℕ) → 0 < count_at p b → bytes_at (written p b at new) b ≡ over (bytes_at p b) at new
bytes_at-written_same p b at new h =
    ap (λ (x : Block). x.bytes) (block_at-with_block_same p b (record { count = count_at p b; bytes = over (bytes_at p b) at new }) (below_size p b h))

pub bytes_at-written_other : (p : Blocks) (b at : ℕ) (new : List ℕ) (c : ℕ) → (c ≡ b → ⊥) → bytes_at (written p b at new) c ≡ bytes_at p c
bytes_at-written_other p b at new c ne =
    ap (λ (x : Block). x.bytes) (block_at-with_block_other p b c (record { count = count_at p b; bytes = over (bytes_at p b) at new }) ne)

pub free_in-written : (p : Blocks) (b at : ℕ) (new : List ℕ) → 0 < count_at p b → free_in (written p b at new) ≡ free_in p
free_in-written p b at new h =
    let x : Block = record { count = count_at p b; bytes = over (bytes_at p b) at new } in
    omega (arith, free_in-with_block p b x (below_size p b h), free_of-held (block_at p b) h, free_of-held x h)

-- the bytes of a list of blocks
pub bytes_of-append : (p : Blocks) (xs ys : List ℕ) → bytes_of p (xs ++ ys) ≡ bytes_of p xs ++ bytes_of p ys
bytes_of-append p xs ys = flat_map-append (λ b. bytes_at p b) xs ys

pub bytes_of-same : (p q : Blocks) (list : List ℕ) → ((b : ℕ) → 0 < places_of b list → bytes_at q b ≡ bytes_at p b) → bytes_of q list ≡ bytes_of p list
bytes_of-same p q [] same = refl
bytes_of-same p q (b ∷ list) same =
    let here : bytes_at q b ≡ bytes_at p b = same b (omega (arith, places_of-cons b b list, places_of-one_same b)) in
    let rest : bytes_of q list ≡ bytes_of p list = bytes_of-same p q list (λ c h. same c (omega (arith, places_of-cons c b list))) in
    rw (flat_map-cons (λ c. bytes_at q c) b list, flat_map-cons (λ c. bytes_at p c) b list, here, rest)

pub length-bytes_of : (p : Blocks) (list : List ℕ) → IsPool p → ((b : ℕ) → places_of b list ≤ count_at p b) → length (bytes_of p list) ≡ length list * p.block_size
length-bytes_of p [] pool each = omega arith
length-bytes_of p (b ∷ list) pool each =
    let here : length (bytes_at p b) ≡ p.block_size = pool.whole b (omega (arith, each b, places_of-cons b b list, places_of-one_same b)) in
    let rest : length (bytes_of p list) ≡ length list * p.block_size = length-bytes_of p list pool (λ c. omega (arith, each c, places_of-cons c b list)) in
    rw (flat_map-cons (λ c. bytes_at p c) b list) (omega (arith, length-append (bytes_at p b) (bytes_of p list), here, rest))

pub bytes_of-written_none : (p : Blocks) (list : List ℕ) (b at : ℕ) (new : List ℕ) → places_of b list ≡ 0 → bytes_of (written p b at new) list ≡ bytes_of p list
bytes_of-written_none p list b at new none =
    bytes_of-same p (written p b at new) list
    (λ c k. bytes_at-written_other p b at new c (λ (e : c ≡ b). let no_place : places_of c list ≡ 0 = rw e none in omega arith))

-- a block that stands once in a list has other bytes
pub bytes_of-written : (p : Blocks) (before after : List ℕ) (b at : ℕ) (new : List ℕ) → 0 < count_at p b → places_of b before ≡ 0 → places_of b after ≡ 0
    → bytes_of (written p b at new) (before ++ b ∷ after) ≡ bytes_of p before ++ (over (bytes_at p b) at new ++ bytes_of p after)
bytes_of-written p before after b at new h none_before none_after =
    let same_before : bytes_of (written p b at new) before ≡ bytes_of p before = bytes_of-written_none p before b at new none_before in
    let same_after : bytes_of (written p b at new) after ≡ bytes_of p after = bytes_of-written_none p after b at new none_after in
    rw (bytes_of-append (written p b at new) before (b ∷ after), same_before, flat_map-cons (λ c. bytes_at (written p b at new) c) b after, same_after, bytes_at-written_same p b at new h)

-- blocks that stand once in a list, each held, are no more than the blocks that are not free
pub length-once : (p : Blocks) (list : List ℕ) → ((b : ℕ) → places_of b list ≤ 1) → ((b : ℕ) → places_of b list ≤ count_at p b) → length list + free_in p ≤ size_of p
length-once p [] once each = omega (arith, count_by-le-length (λ (x : Block). eqb x.count 0) p.blocks)
length-once p (b ∷ list) once each =
    let here : 0 < count_at p b = omega (arith, each b, places_of-cons b b list, places_of-one_same b) in
    let l : b < size_of p = below_size p b here in
    let q : Blocks = with_block p b free_block in
    let rest : length list + free_in q ≤ size_of q = length-once q list
    (λ c. omega (arith, once c, places_of-cons c b list))
    (λ c. let P : Block → Type 0 = λ x. places_of c list ≤ x.count in
    by_block p b c free_block l P
    (λ (e : c ≡ b). rw e (omega (arith, once b, places_of-cons b b list, places_of-one_same b)))
    (λ ne. omega (arith, each c, places_of-cons c b list))) in
    omega (arith, rest, free_in-with_block p b free_block l, free_of-held (block_at p b) here, length-set p.blocks b free_block)

-- 1 for a block that somebody holds, 0 for another
abbrev used_of : Block → ℕ
used_of x = cond (nat_lt 0 x.count) 1 0

used_of-zero : (n : ℕ) → n ≡ 0 → cond {A = ℕ} (nat_lt 0 n) 1 0 ≡ 0
used_of-zero n e = ap (λ k. cond {A = ℕ} (nat_lt 0 k) 1 0) e

used_of-few : (n : ℕ) → cond {A = ℕ} (nat_lt 0 n) 1 0 ≤ 1
used_of-few n = grind (arith, nat_tests)

free_or_used : (n : ℕ) → cond {A = ℕ} (eqb n 0) 1 0 + cond {A = ℕ} (nat_lt 0 n) 1 0 ≡ 1
free_or_used n = grind (arith, nat_tests)

free_and_used : (blocks : List Block) → sum_by free_of blocks + sum_by used_of blocks ≡ length blocks
free_and_used [] = refl
free_and_used (x ∷ blocks) =
    omega (arith, free_and_used blocks, sum_by-append free_of (x ∷ []) blocks, sum_by-append used_of (x ∷ []) blocks, free_or_used x.count)

-- each block is free or in use
pub free_in-used_in : (p : Blocks) → free_in p + used_in p ≡ size_of p
free_in-used_in p = free_and_used p.blocks

used_in-with_block : (p : Blocks) (b : ℕ) (x : Block) → b < size_of p → used_in (with_block p b x) + used_of (block_at p b) ≡ used_in p + used_of x
used_in-with_block p b x l = sum_by-set used_of p.blocks b x free_block l

-- no more blocks are in use than stand in a list that has as many places for each as hold it
pub used_in-listed : (p : Blocks) (list : List ℕ) → ((b : ℕ) → count_at p b ≤ places_of b list) → used_in p ≤ length list
used_in-listed p [] few =
    let none : All (λ (x : Block). used_of x ≤ 0) p.blocks = All-from_get_or (λ (x : Block). used_of x ≤ 0) p.blocks free_block
    (λ i l. omega (arith, used_of-zero (count_at p i) (omega (arith, few i)))) in
    omega (arith, sum_by-le used_of 0 p.blocks none)
used_in-listed p (b ∷ list) few = ⊎_elim
    (λ (l : b < size_of p).
    let rest : used_in (with_block p b free_block) ≤ length list = used_in-listed (with_block p b free_block) list
    (λ c. let P : Block → Type 0 = λ x. x.count ≤ places_of c list in
    by_block p b c free_block l P
    (λ e. omega arith)
    (λ ne. omega (arith, few c, places_of-cons c b list, places_of-one_other b c ne))) in
    omega (arith, rest, used_in-with_block p b free_block l, used_of-few (count_at p b)))
    (λ (past : size_of p ≤ b).
    let rest : used_in p ≤ length list = used_in-listed p list
    (λ c. ⊎_elim
    (λ (e : c ≡ b). let none : count_at p c ≡ 0 = rw e (ap (λ (x : Block). x.count) (get_or_past p.blocks b free_block past)) in omega arith)
    (λ ne. omega (arith, few c, places_of-cons c b list, places_of-one_other b c ne))
    (cases_eq c b)) in
    omega arith)
    (cases_lt b (size_of p))

-- the free blocks, counted by their numbers
sum_by-numbers : (f : Block → ℕ) (g : ℕ → ℕ) (a : ℕ) (blocks : List Block) → ((i : ℕ) → i < length blocks → g (a + i) ≡ f (get_or blocks i free_block)) → sum_by g (range_with_len a (length blocks)) ≡ sum_by f blocks
sum_by-numbers f g a [] same = refl
sum_by-numbers f g a (x ∷ blocks) same =
    let here : g a ≡ f x = ap g (omega arith) ∙ same 0 (omega arith) in
    let rest : sum_by g (range_with_len (a + 1) (length blocks)) ≡ sum_by f blocks = sum_by-numbers f g (a + 1) blocks
    (λ i l. ap g (omega arith) ∙ same (suc i) (omega arith)) in
    omega (arith, here, rest, sum_by-append g (a ∷ []) (range_with_len (a + 1) (length blocks)), sum_by-append f (x ∷ []) blocks)

pub free_in-numbers : (p : Blocks) → free_in p ≡ count_by (λ b. count_at p b == 0) (range_with_len 0 (size_of p))
free_in-numbers p = sym (sum_by-numbers free_of (λ b. cond (eqb (count_at p b) 0) 1 0) 0 p.blocks (λ i l. ap (λ k. free_of (block_at p k)) (omega arith)))

pub ruleset laws = (below_size, count_at-taken, bytes_at-taken, free_in-taken, size_of-taken, block_size-taken, count_at-held, bytes_at-held, free_in-held, count_at-released, bytes_at-released, free_in-released, count_at-written, bytes_at-written_same, bytes_at-written_other, free_in-written, places_of-one_same, places_of-one_other)
