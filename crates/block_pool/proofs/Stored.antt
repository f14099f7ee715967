-- What a pool's lists show as blocks: the counts, the bytes, and both after a change of one of the lists.
use Rattle.std.proofs.Common.{◌≡◌, ℕ, zero, suc, ◌+◌, ◌*◌, ◌-◌, ◌<◌, ◌≤◌, List, [], ◌∷◌, ◌++◌, length, get_or, set, replicate, take, drop, cond, eqb, count_by, refl, ap, sym, ◌∙◌, subst, ⊎_elim, arith, rules, length-append, length-set, length-take, length-drop}
use Rattle.std.proofs.lemmas.List.{drop-drop, drop_at, get_or_push, take_all, get_or-set_same, drop-append-le, set-set, take_at, get_or_append_left, get_or_past, get_or_read, length-replicate, same_lists, take-append-le, places}
use Rattle.std.proofs.lemmas.Grind.{common_steps}
use Rattle.std.proofs.lemmas.List.Sums.{sum_by-cons}
use Rattle.std.proofs.lemmas.Bool.{cases_lt, cases_eq, ne_eqb}
use Rattle.block_pool.specs.Blocks.{Block, Blocks, all_free, free_block, over, size_of, count_at, bytes_at, free_in, with_block, held, released, written, Takes, IsPool, IsWithinLimits}
use Rattle.block_pool.specs.FreeList.{block_of, blocks_of, counts_of_all, padded}
use Rattle.block_pool.proofs.BlocksLaws.{count_at-taken, places_of-one_same, size_of-taken}

pub count-block_of : (size count : ℕ) (bytes : List ℕ) → (block_of size count bytes).count ≡ count
count-block_of size zero bytes = refl
count-block_of size (suc n) bytes = refl

pub block_of-held : (size count : ℕ) (bytes : List ℕ) → 0 < count → block_of size count bytes ≡ record { count = count; bytes = take size bytes }
block_of-held size zero bytes h = absurd (omega arith)
block_of-held size (suc n) bytes h = refl

pub length-blocks_of : (size : ℕ) (counts bytes : List ℕ) → length (blocks_of size counts bytes) ≡ length counts
length-blocks_of size [] bytes = refl
length-blocks_of size (c ∷ cs) bytes = ap (λ n. suc n) (length-blocks_of size cs (drop size bytes))

first_start : (size : ℕ) → 0 ≡ 0 * size
first_start size = omega arith

next_start : (size b : ℕ) → size + b * size ≡ suc b * size
next_start size b = omega arith

pub get_or-blocks_of : (size : ℕ) (counts bytes : List ℕ) (b : ℕ) → get_or (blocks_of size counts bytes) b free_block ≡ block_of size (get_or counts b 0) (drop (b * size) bytes)
get_or-blocks_of size [] bytes b = refl
get_or-blocks_of size (c ∷ cs) bytes zero = ap (λ n. block_of size c (drop n bytes)) (first_start size)
get_or-blocks_of size (c ∷ cs) bytes (suc b) =
    get_or-blocks_of size cs (drop size bytes) b
    ∙ ap (λ d. block_of size (get_or cs b 0) d) (drop-drop (b * size) size bytes ∙ ap (λ n. drop n bytes) (next_start size b))

pub count-blocks_of : (size : ℕ) (counts bytes : List ℕ) (b : ℕ) → (get_or (blocks_of size counts bytes) b free_block).count ≡ get_or counts b 0
count-blocks_of size counts bytes b =
    ap (λ (x : Block). x.count) (get_or-blocks_of size counts bytes b) ∙ count-block_of size (get_or counts b 0) (drop (b * size) bytes)

pub bytes-blocks_of : (size : ℕ) (counts bytes : List ℕ) (b : ℕ) → 0 < get_or counts b 0 → (get_or (blocks_of size counts bytes) b free_block).bytes ≡ take size (drop (b * size) bytes)
bytes-blocks_of size counts bytes b h =
    ap (λ (x : Block). x.bytes) (get_or-blocks_of size counts bytes b) ∙ ap (λ (x : Block). x.bytes) (block_of-held size (get_or counts b 0) (drop (b * size) bytes) h)

pub free-blocks_of : (size : ℕ) (counts bytes : List ℕ) → count_by (λ (x : Block). eqb x.count 0) (blocks_of size counts bytes) ≡ count_by (λ c. eqb c 0) counts
free-blocks_of size [] bytes = refl
free-blocks_of size (c ∷ cs) bytes =
    sum_by-cons (λ (x : Block). cond (eqb x.count 0) 1 0) (block_of size c bytes) (blocks_of size cs (drop size bytes))
    ∙ ap (λ n. cond (eqb n 0) 1 0 + count_by (λ (x : Block). eqb x.count 0) (blocks_of size cs (drop size bytes))) (count-block_of size c bytes)
    ∙ ap (λ n. cond (eqb c 0) 1 0 + n) (free-blocks_of size cs (drop size bytes))
    ∙ sym (sum_by-cons (λ n. cond (eqb n 0) 1 0) c cs)

-- a new count
pub blocks_of-set : (size : ℕ) (counts bytes : List ℕ) (b c : ℕ) → blocks_of size (set counts b c) bytes ≡ set (blocks_of size counts bytes) b (block_of size c (drop (b * size) bytes))
blocks_of-set size [] bytes b c = refl
blocks_of-set size (x ∷ cs) bytes zero c = ap (λ n. block_of size c (drop n bytes) ∷ blocks_of size cs (drop size bytes)) (first_start size)
blocks_of-set size (x ∷ cs) bytes (suc b) c =
    ap (λ rest. block_of size x bytes ∷ rest)
    (blocks_of-set size cs (drop size bytes) b c
    ∙ ap (λ d. set (blocks_of size cs (drop size bytes)) b (block_of size c d)) (drop-drop (b * size) size bytes ∙ ap (λ n. drop n bytes) (next_start size b)))

pub length-over : (old : List ℕ) (at : ℕ) (new : List ℕ) → at + length new ≤ length old → length (over old at new) ≡ length old
length-over old at new h =
    omega (arith, length-append (take at old ++ new) (drop (at + length new) old), length-append (take at old) new, length-take at old, length-drop (at + length new) old)

take-over : (old : List ℕ) (n at : ℕ) (new : List ℕ) → at + length new ≤ n → n ≤ length old → take n (over old at new) ≡ over (take n old) at new
take-over old n at new h k = same_lists _ _ (search (rules, places)) (λ i d l. grind (arith, places))

drop-over : (old : List ℕ) (n at : ℕ) (new : List ℕ) → at + length new ≤ n → n ≤ length old → drop n (over old at new) ≡ drop n old
drop-over old n at new h k = same_lists _ _ (search (rules, places)) (λ i d l. grind (arith, places))

take-over_past : (old : List ℕ) (n at : ℕ) (new : List ℕ) → n + at + length new ≤ length old → take n (over old (n + at) new) ≡ take n old
take-over_past old n at new h = same_lists _ _ (search (rules, places)) (λ i d l. grind (arith, places))

drop-over_past : (old : List ℕ) (n at : ℕ) (new : List ℕ) → n + at + length new ≤ length old → drop n (over old (n + at) new) ≡ over (drop n old) at new
drop-over_past old n at new h = same_lists _ _ (search (rules, places)) (λ i d l. grind (arith, places))

take-over_front : (size c : ℕ) (old : List ℕ) (at : ℕ) (new : List ℕ) → size + at + length new ≤ length old → block_of size c (over old (size + at) new) ≡ block_of size c old
take-over_front size zero old at new h = refl
take-over_front size (suc n) old at new h = ap (λ bytes. record { count = suc n; bytes = bytes }) (take-over_past old size at new h)

-- other bytes in one block
pub blocks_of-over : (size : ℕ) (counts bytes : List ℕ) (b at : ℕ) (new : List ℕ) → b < length counts → 0 < get_or counts b 0 → at + length new ≤ size → b * size + size ≤ length bytes
    → blocks_of size counts (over bytes (b * size + at) new) ≡ set (blocks_of size counts bytes) b (record { count = get_or counts b 0; bytes = over (take size (drop (b * size) bytes)) at new })
blocks_of-over size [] bytes b at new h pos k e = absurd (omega arith)
blocks_of-over size (c ∷ cs) bytes zero at new h pos k e =
    let whole : size ≤ length bytes = omega arith in
    let start : 0 * size + at ≡ at = omega arith in
    rw (start, ← first_start size, block_of-held size c (over bytes at new) pos, take-over bytes size at new k whole, drop-over bytes size at new k whole)
blocks_of-over size (c ∷ cs) bytes (suc b) at new h pos k e =
    let inner : b < length cs = omega arith in
    let rest : b * size + size ≤ length (drop size bytes) = omega (arith, length-drop size bytes, next_start size b) in
    let room : size + (b * size + at) + length new ≤ length bytes = omega arith in
    let start : suc b * size + at ≡ size + (b * size + at) = omega arith in
    let same : take size (drop (b * size) (drop size bytes)) ≡ take size (drop (suc b * size) bytes) = ap (λ d. take size d) (drop-drop (b * size) size bytes ∙ ap (λ n. drop n bytes) (next_start size b)) in
    rw (start, take-over_front size c bytes (b * size + at) new room, drop-over_past bytes size (b * size + at) new room, ← same)
    (ap (λ blocks. block_of size c bytes ∷ blocks) (blocks_of-over size cs (drop size bytes) b at new inner pos k rest))

pub below : (counts : List ℕ) (b : ℕ) → 0 < get_or counts b 0 → b < length counts
below counts b h = ⊎_elim (λ l. l) (λ past. absurd (let e : get_or counts b 0 ≡ 0 = get_or_past counts b 0 past in omega arith)) (cases_lt b (length counts))

-- ---- the counts of all blocks, of which the last were never taken

zeros : (k b : ℕ) → get_or (replicate {A = ℕ} k 0) b 0 ≡ 0
zeros zero b = refl
zeros (suc k) zero = refl
zeros (suc k) (suc b) = zeros k b

get_or-zeros : (counts : List ℕ) (k b : ℕ) → get_or (counts ++ replicate k 0) b 0 ≡ get_or counts b 0
get_or-zeros [] k b = zeros k b
get_or-zeros (c ∷ cs) k zero = refl
get_or-zeros (c ∷ cs) k (suc b) = get_or-zeros cs k b

set-zeros : (counts : List ℕ) (k b c : ℕ) → b < length counts → set (counts ++ replicate k 0) b c ≡ set counts b c ++ replicate k 0
set-zeros [] k b c l = absurd (omega arith)
set-zeros (x ∷ cs) k zero c l = refl
set-zeros (x ∷ cs) k (suc b) c l = ap (λ rest. x ∷ rest) (set-zeros cs k b c (omega arith))

set-first_zero : (counts : List ℕ) (k c : ℕ) → set (counts ++ replicate (suc k) 0) (length counts) c ≡ (counts ++ c ∷ []) ++ replicate k 0
set-first_zero [] k c = refl
set-first_zero (x ∷ cs) k c = ap (λ rest. x ∷ rest) (set-first_zero cs k c)

-- a count is that of a block that was taken, or 0
pub all-count : (many : ℕ) (counts : List ℕ) (b : ℕ) → get_or (counts_of_all many counts) b 0 ≡ get_or counts b 0
all-count many counts b = get_or-zeros counts (many - length counts) b

-- who is held was taken
pub all-below : (many : ℕ) (counts : List ℕ) (b : ℕ) → 0 < get_or (counts_of_all many counts) b 0 → b < length counts
all-below many counts b h = below counts b (rw (← all-count many counts b) h)

pub length-all : (many : ℕ) (counts : List ℕ) → length counts ≤ many → length (counts_of_all many counts) ≡ many
length-all many counts few = omega (arith, length-append counts (replicate (many - length counts) 0), length-replicate {A = ℕ} (many - length counts) 0, few)

-- a new count of a block that was taken
pub all-set : (many : ℕ) (counts : List ℕ) (b c : ℕ) → b < length counts → counts_of_all many (set counts b c) ≡ set (counts_of_all many counts) b c
all-set many counts b c l =
    ap (λ n. set counts b c ++ replicate (many - n) 0) (length-set counts b c) ∙ sym (set-zeros counts (many - length counts) b c l)

-- the first count of a block that is taken for the first time
pub all-push : (many : ℕ) (counts : List ℕ) (c : ℕ) → length counts < many → counts_of_all many (counts ++ c ∷ []) ≡ set (counts_of_all many counts) (length counts) c
all-push many counts c few =
    let left : many - length counts ≡ suc (many - length (counts ++ c ∷ [])) = omega (arith, length-append counts (c ∷ []), few) in
    sym (ap (λ k. set (counts ++ replicate k 0) (length counts) c) left ∙ set-first_zero counts (many - length (counts ++ c ∷ [])) c)

-- a count that was read from the counts of those that were taken
pub all-read : (many : ℕ) (counts : List ℕ) (b x : ℕ) → b < length counts → x ≡ get_or counts b x → x ≡ get_or (counts_of_all many counts) b x
all-read many counts b x l r = r ∙ sym (get_or_append_left counts (replicate (many - length counts) 0) x b l)

-- what a contract sees of the lists
abbrev pub shown : ℕ → List ℕ → List ℕ → Blocks
shown size counts bytes = record { block_size = size; blocks = blocks_of size counts bytes }

pub shown-count : (size : ℕ) (counts bytes : List ℕ) (p : Blocks) (b : ℕ) → shown size counts bytes ≡ p → get_or counts b 0 ≡ count_at p b
shown-count size counts bytes p b e = sym (count-blocks_of size counts bytes b) ∙ ap (λ (q : Blocks). count_at q b) e

pub shown-held : (size : ℕ) (counts bytes : List ℕ) (p : Blocks) (b : ℕ) → shown size counts bytes ≡ p → 0 < count_at p b → 0 < get_or counts b 0
shown-held size counts bytes p b e h = rw (shown-count size counts bytes p b e) h

pub shown-size : (size : ℕ) (counts bytes : List ℕ) (p : Blocks) (n : ℕ) → shown size counts bytes ≡ p → n ≡ p.block_size → n ≡ size
shown-size size counts bytes p n e h = h ∙ sym (ap (λ (q : Blocks). q.block_size) e)

-- a held block has another count
pub shown-set : (size : ℕ) (counts bytes : List ℕ) (b c : ℕ) → 0 < get_or counts b 0 → 0 < c
    → shown size (set counts b c) bytes ≡ with_block (shown size counts bytes) b (record { count = c; bytes = bytes_at (shown size counts bytes) b })
shown-set size counts bytes b c pos new =
    ap (λ (blocks : List Block). record { block_size = size; blocks = blocks })
    (blocks_of-set size counts bytes b c
    ∙ ap (λ (x : Block). set (blocks_of size counts bytes) b x)
    (block_of-held size c (drop (b * size) bytes) new ∙ ap (λ bs. record { count = c; bytes = bs }) (sym (bytes-blocks_of size counts bytes b pos))))

pub shown-size_of : (size : ℕ) (counts bytes : List ℕ) (p : Blocks) (many : ℕ) → shown size counts bytes ≡ p → length counts ≡ many → many ≡ size_of p
shown-size_of size counts bytes p many e long = sym (sym (ap (λ (q : Blocks). size_of q) e) ∙ length-blocks_of size counts bytes ∙ long)

blocks_of-free : (size n : ℕ) (bytes : List ℕ) → blocks_of size (replicate n 0) bytes ≡ replicate n free_block
blocks_of-free size zero bytes = refl
blocks_of-free size (suc n) bytes = ap (λ blocks. free_block ∷ blocks) (blocks_of-free size n (drop size bytes))

-- no block was taken
pub shown-none : (size many : ℕ) → shown size (counts_of_all many []) [] ≡ all_free many size
shown-none size many =
    let every : many - 0 ≡ many = omega arith in
    ap (λ (blocks : List Block). record { block_size = size; blocks = blocks }) (blocks_of-free size (many - 0) [] ∙ ap (λ n. replicate n free_block) every)

block_of-more : (size c : ℕ) (bytes more : List ℕ) → size ≤ length bytes → block_of size c (bytes ++ more) ≡ block_of size c bytes
block_of-more size zero bytes more l = refl
block_of-more size (suc n) bytes more l = ap (λ bs. record { count = suc n; bytes = bs }) (take-append-le size bytes more l)

-- bytes behind those of the blocks that were taken change none of them
blocks_of-more : (size k : ℕ) (counts bytes more : List ℕ) → length bytes ≡ length counts * size → blocks_of size (counts ++ replicate k 0) (bytes ++ more) ≡ blocks_of size (counts ++ replicate k 0) bytes
blocks_of-more size k [] bytes more every = blocks_of-free size k (bytes ++ more) ∙ sym (blocks_of-free size k bytes)
blocks_of-more size k (c ∷ cs) bytes more every =
    let whole : size ≤ length bytes = grind (arith) in
    let rest : length (drop size bytes) ≡ length cs * size = omega (arith, length-drop size bytes) in
    rw (block_of-more size c bytes more whole, drop-append-le size bytes more whole) (ap (λ blocks. block_of size c bytes ∷ blocks) (blocks_of-more size k cs (drop size bytes) more rest))

pub piece-fits : (size n b : ℕ) (bytes : List ℕ) → b < n → length bytes ≡ n * size → b * size + size ≤ length bytes
piece-fits size n b bytes l every =
    let within : (b + 1) * size ≤ n * size = grind (arith, common_steps) in
    omega arith

length-piece : (size b : ℕ) (bytes : List ℕ) → b * size + size ≤ length bytes → length (take size (drop (b * size) bytes)) ≡ size
length-piece size b bytes fits = omega (arith, length-take size (drop (b * size) bytes), length-drop (b * size) bytes)

-- a free block is taken
shown-take : (size : ℕ) (counts bytes : List ℕ) (p : Blocks) (b : ℕ) → shown size counts bytes ≡ p → b < length counts → get_or counts b 0 ≡ 0 → b * size + size ≤ length bytes
    → Takes p (shown size (set counts b 1) bytes) b
shown-take size counts bytes p b e l z fits =
    let now : get_or (set counts b 1) b 0 ≡ 1 = get_or-set_same counts b 1 0 l in
    let piece : bytes_at (shown size (set counts b 1) bytes) b ≡ take size (drop (b * size) bytes) = bytes-blocks_of size (set counts b 1) bytes b (omega arith) in
    let P : Blocks → Type 0 = λ q. Takes q (shown size (set counts b 1) bytes) b in
    subst P e (record {
      within = rw (length-blocks_of size counts bytes) l;
      free = count-blocks_of size counts bytes b ∙ z;
      whole = ap (λ bs. length bs) piece ∙ length-piece size b bytes fits;
      after = ap (λ (blocks : List Block). record { block_size = size; blocks = blocks }) (blocks_of-set size counts bytes b 1)
          ∙ ap (λ bs. with_block (shown size counts bytes) b (record { count = 1; bytes = bs })) (sym piece);
    })

-- a block that is taken and then written is taken, with these bytes first
taken-written : (p q : Blocks) (b : ℕ) (new : List ℕ) → Takes p q b → length new ≤ p.block_size → Takes p (written q b 0 new) b × (take (length new) (bytes_at (written q b 0 new) b) ≡ new)
taken-written p q b new t fits =
    let bytes : List ℕ = over (bytes_at q b) 0 new in
    let one : count_at q b ≡ 1 = omega (arith, count_at-taken p q b t b, t.free, places_of-one_same b) in
    let at : bytes_at (written q b 0 new) b ≡ bytes = ap (λ (x : Block). x.bytes) (get_or-set_same q.blocks b (record { count = count_at q b; bytes = bytes }) free_block (omega (arith, t.within, size_of-taken p q b t))) in
    let after : written q b 0 new ≡ with_block p b (record { count = 1; bytes = bytes }) =
    ap (λ n. with_block q b (record { count = n; bytes = bytes })) one
    ∙ ap (λ (r : Blocks). with_block r b (record { count = 1; bytes = bytes })) t.after
    ∙ ap (λ (blocks : List Block). record { block_size = p.block_size; blocks = blocks }) (set-set p.blocks b (record { count = 1; bytes = bytes_at q b }) (record { count = 1; bytes = bytes })) in (
      record {
        within = t.within;
        free = t.free;
        whole = ap (λ (bs : List ℕ). length bs) at ∙ length-over (bytes_at q b) 0 new (omega (arith, t.whole)) ∙ t.whole;
        after = after ∙ ap (λ (bs : List ℕ). with_block p b (record { count = 1; bytes = bs })) (sym at);
      },
      ap (λ (bs : List ℕ). take (length new) bs) at ∙ take_at new (drop (0 + length new) (bytes_at q b)) (length new) refl,
    )

-- A pool of so many blocks, of which those with counts were taken.
module _ (size many : ℕ) (counts bytes : List ℕ) (p : Blocks) (e : shown size (counts_of_all many counts) bytes ≡ p) where
  pub taken-count : (b : ℕ) → get_or counts b 0 ≡ count_at p b
  taken-count b = sym (all-count many counts b) ∙ shown-count size (counts_of_all many counts) bytes p b e

  pub taken-held : (b : ℕ) → 0 < count_at p b → 0 < get_or counts b 0
  taken-held b h = rw (taken-count b) h

  pub taken-below : (b : ℕ) → 0 < count_at p b → b < length counts
  taken-below b h = below counts b (taken-held b h)

  -- a count that was read from the list
  pub taken-read : (b x : ℕ) → 0 < count_at p b → x ≡ get_or counts b x → x ≡ count_at p b
  taken-read b x h r = get_or_read counts b x (taken-below b h) r 0 ∙ taken-count b

  -- a count that was read at the place of a block, and that of one that was never taken
  pub taken-read_at : (b place x : ℕ) → place < length counts → x ≡ get_or counts place x → place ≡ b → x ≡ count_at p b
  taken-read_at b place x l r same = get_or_read counts place x l r 0 ∙ ap (λ i. get_or counts i 0) same ∙ taken-count b

  pub taken-none : (b : ℕ) → length counts ≤ b → 0 ≡ count_at p b
  taken-none b past = sym (get_or_past counts b 0 past) ∙ taken-count b

  pub taken-hold : (b x : ℕ) → 0 < count_at p b → x ≡ get_or counts b x → shown size (counts_of_all many (set counts b (x + 1))) bytes ≡ held p b
  taken-hold b x h r =
      let pos : 0 < get_or (counts_of_all many counts) b 0 = shown-held size (counts_of_all many counts) bytes p b e h in
      ap (λ counts. shown size counts bytes) (all-set many counts b (x + 1) (taken-below b h))
      ∙ shown-set size (counts_of_all many counts) bytes b (x + 1) pos (omega arith)
      ∙ ap (λ (q : Blocks). with_block q b (record { count = x + 1; bytes = bytes_at q b })) e
      ∙ ap (λ n. with_block p b (record { count = n + 1; bytes = bytes_at p b })) (taken-read b x h r)

  pub taken-release : (b x : ℕ) → 0 < count_at p b → x ≡ get_or counts b x → shown size (counts_of_all many (set counts b (x - 1))) bytes ≡ released p b
  taken-release b x h r =
      let pos : 0 < get_or (counts_of_all many counts) b 0 = shown-held size (counts_of_all many counts) bytes p b e h in
      let count : x ≡ count_at p b = taken-read b x h r in
      ap (λ counts. shown size counts bytes) (all-set many counts b (x - 1) (taken-below b h))
      ∙ rw count (⊎_elim
      (λ (one : count_at p b ≡ 1). rw one
      (ap (λ (blocks : List Block). record { block_size = size; blocks = blocks }) (blocks_of-set size (counts_of_all many counts) bytes b 0) ∙ ap (λ (q : Blocks). with_block q b free_block) e))
      (λ (more : count_at p b ≡ 1 → ⊥). rw (ne_eqb (count_at p b) 1 more)
      (shown-set size (counts_of_all many counts) bytes b (count_at p b - 1) pos (omega arith)
      ∙ ap (λ (q : Blocks). with_block q b (record { count = count_at p b - 1; bytes = bytes_at q b })) e))
      (cases_eq (count_at p b) 1))

  pub taken-fits : length bytes ≡ length counts * size → (b : ℕ) → 0 < count_at p b → b * size + size ≤ length bytes
  taken-fits every b h = piece-fits size (length counts) b bytes (taken-below b h) every

  pub write-fits : length bytes ≡ length counts * size → (b at n : ℕ) → 0 < count_at p b → at + n ≤ p.block_size → b * size + at + n ≤ length bytes
  write-fits every b at n h fits =
      let size_is : size ≡ p.block_size = ap (λ (q : Blocks). q.block_size) e in
      omega (arith, taken-fits every b h)

  pub taken-write : length bytes ≡ length counts * size → (b at : ℕ) (new : List ℕ) → count_at p b ≡ 1 → at + length new ≤ p.block_size
      → shown size (counts_of_all many counts) (over bytes (b * size + at) new) ≡ written p b at new
  taken-write every b at new one fits =
      let held : 0 < count_at p b = omega arith in
      let pos : 0 < get_or (counts_of_all many counts) b 0 = shown-held size (counts_of_all many counts) bytes p b e held in
      let size_is : size ≡ p.block_size = ap (λ (q : Blocks). q.block_size) e in
      let fits_here : at + length new ≤ size = omega arith in
      ap (λ (blocks : List Block). record { block_size = size; blocks = blocks })
      (blocks_of-over size (counts_of_all many counts) bytes b at new (below (counts_of_all many counts) b pos) pos fits_here (taken-fits every b held)
      ∙ ap (λ n. set (blocks_of size (counts_of_all many counts) bytes) b (record { count = n; bytes = over (take size (drop (b * size) bytes)) at new })) (sym (count-blocks_of size (counts_of_all many counts) bytes b))
      ∙ ap (λ bs. set (blocks_of size (counts_of_all many counts) bytes) b (record { count = count_at (shown size (counts_of_all many counts) bytes) b; bytes = over bs at new })) (sym (bytes-blocks_of size (counts_of_all many counts) bytes b pos)))
      ∙ ap (λ (q : Blocks). written q b at new) e

  pub taken-bytes : (b : ℕ) → 0 < count_at p b → take (b * size + size - b * size) (drop (b * size) bytes) ≡ bytes_at p b
  taken-bytes b h =
      let n : b * size + size - b * size ≡ size = omega arith in
      ap (λ k. take k (drop (b * size) bytes)) n
      ∙ sym (bytes-blocks_of size (counts_of_all many counts) bytes b (shown-held size (counts_of_all many counts) bytes p b e h))
      ∙ ap (λ (q : Blocks). bytes_at q b) e

  -- a block that was taken before and is free is taken again
  pub taken-again : length bytes ≡ length counts * size → (b : ℕ) → b < length counts → get_or counts b 0 ≡ 0 → Takes p (shown size (counts_of_all many (set counts b 1)) bytes) b
  taken-again every b l z =
      let within : b < length (counts_of_all many counts) = omega (arith, l, length-append counts (replicate (many - length counts) 0)) in
      subst (λ counts. Takes p (shown size counts bytes) b) (sym (all-set many counts b 1 l))
      (shown-take size (counts_of_all many counts) bytes p b e within (all-count many counts b ∙ z) (piece-fits size (length counts) b bytes l every))

  -- the first block that was never taken is taken, with these bytes
  pub taken-first : (more : List ℕ) → length more ≡ size → length bytes ≡ length counts * size → length counts < many → Takes p (shown size (counts_of_all many (counts ++ 1 ∷ [])) (bytes ++ more)) (length counts)
  taken-first more whole every left =
      let within : length counts < length (counts_of_all many counts) = omega (arith, left, length-all many counts (omega (arith, left))) in
      let same : shown size (counts_of_all many counts) (bytes ++ more) ≡ p =
      ap (λ (blocks : List Block). record { block_size = size; blocks = blocks }) (blocks_of-more size (many - length counts) counts bytes more every) ∙ e in
      let fits : length counts * size + size ≤ length (bytes ++ more) = omega (arith, length-append bytes more, whole, every) in
      subst (λ counts'. Takes p (shown size counts' (bytes ++ more)) (length counts)) (sym (all-push many counts 1 left))
      (shown-take size (counts_of_all many counts) (bytes ++ more) p (length counts) same within (all-count many counts (length counts) ∙ get_or_past counts (length counts) 0 (omega arith)) fits)

  -- its bytes are these
  pub taken-first_bytes : (more : List ℕ) → length more ≡ size → length bytes ≡ length counts * size → length counts < many → bytes_at (shown size (counts_of_all many (counts ++ 1 ∷ [])) (bytes ++ more)) (length counts) ≡ more
  taken-first_bytes more whole every left =
      let all : List ℕ = counts_of_all many (counts ++ 1 ∷ []) in
      let one : get_or all (length counts) 0 ≡ 1 = all-count many (counts ++ 1 ∷ []) (length counts) ∙ get_or_push counts 1 0 (length counts) refl in
      bytes-blocks_of size all (bytes ++ more) (length counts) (omega arith)
      ∙ ap (λ bs. take size bs) (drop_at bytes more (length counts * size) every) ∙ take_all size more (omega arith)

  -- how many blocks are free
  pub free-all : count_by (λ c. eqb c 0) counts + (many - length counts) ≡ free_in p
  free-all =
      sym (count_by-zeros (many - length counts) counts) ∙ sym (free-blocks_of size (counts_of_all many counts) bytes) ∙ ap (λ (q : Blocks). free_in q) e
    where
      count_zeros : (k : ℕ) → count_by (λ c. eqb c 0) (replicate k 0) ≡ k
      count_zeros zero = refl
      count_zeros (suc k) = sum_by-cons (λ n. cond (eqb n 0) 1 0) 0 (replicate k 0) ∙ ap (λ n. 1 + n) (count_zeros k) ∙ omega arith

      count_by-zeros : (k : ℕ) (counts : List ℕ) → count_by (λ c. eqb c 0) (counts ++ replicate k 0) ≡ count_by (λ c. eqb c 0) counts + k
      count_by-zeros k [] = count_zeros k ∙ omega arith
      count_by-zeros k (c ∷ cs) =
          sum_by-cons (λ n. cond (eqb n 0) 1 0) c (cs ++ replicate k 0) ∙ ap (λ n. cond (eqb c 0) 1 0 + n) (count_by-zeros k cs)
          ∙ omega (arith, sum_by-cons (λ n. cond (eqb n 0) 1 0) c cs)

  pub taken-pool : length counts ≤ many → IsWithinLimits many size → length bytes ≡ length counts * size → IsPool p
  taken-pool few limits every =
      let P : ℕ → Type 0 = λ n. IsWithinLimits n size in
      subst IsPool e (record {
        limits = subst P (sym (length-blocks_of size (counts_of_all many counts) bytes ∙ length-all many counts few)) limits;
        whole = λ b h.
            let pos : 0 < get_or (counts_of_all many counts) b 0 = rw (← count-blocks_of size (counts_of_all many counts) bytes b) h in
            ap (λ bs. length bs) (bytes-blocks_of size (counts_of_all many counts) bytes b pos) ∙ length-piece size b bytes (piece-fits size (length counts) b bytes (all-below many counts b pos) every);
      })

-- a block that was taken before and is free is taken again, with these bytes first
pub taken-again_with : (size many : ℕ) (counts bytes : List ℕ) (p : Blocks) → shown size (counts_of_all many counts) bytes ≡ p → length bytes ≡ length counts * size
    → (b start : ℕ) (new : List ℕ) → b < length counts → get_or counts b 0 ≡ 0 → start ≡ b * size → length new ≤ p.block_size
    → Takes p (shown size (counts_of_all many (set counts b 1)) (over bytes start new)) b
    × (take (length new) (bytes_at (shown size (counts_of_all many (set counts b 1)) (over bytes start new)) b) ≡ new)
taken-again_with size many counts bytes p e every b start new l z at fits =
    let q : Blocks = shown size (counts_of_all many (set counts b 1)) bytes in
    let t : Takes p q b = taken-again size many counts bytes p e every b l z in
    let one : count_at q b ≡ 1 = omega (arith, count_at-taken p q b t b, t.free, places_of-one_same b) in
    let long : length bytes ≡ length (set counts b 1) * size = every ∙ ap (λ n. n * size) (sym (length-set counts b 1)) in
    let size_is : size ≡ p.block_size = ap (λ (r : Blocks). r.block_size) e in
    let P : Blocks → Type 0 = λ r. Takes p r b × (take (length new) (bytes_at r b) ≡ new) in
    let place : start ≡ b * size + 0 = omega arith in
    let after : shown size (counts_of_all many (set counts b 1)) (over bytes start new) ≡ written q b 0 new =
    ap (λ n. shown size (counts_of_all many (set counts b 1)) (over bytes n new)) place
    ∙ taken-write size many (set counts b 1) bytes q refl long b 0 new one (omega arith) in
    subst P (sym after) (taken-written p q b new t fits)

-- as many bytes as a block has, of which these are the first
pub length-padded : (size : ℕ) (new : List ℕ) → length new ≤ size → length (padded size new) ≡ size
length-padded size new fits = omega (arith, length-append new (replicate (size - length new) 0), length-replicate {A = ℕ} (size - length new) 0)

pub padded-first : (size : ℕ) (new : List ℕ) → take (length new) (padded size new) ≡ new
padded-first size new = take_at new (replicate (size - length new) 0) (length new) refl

pub ruleset stored = (length-blocks_of, count-blocks_of, free-blocks_of)
