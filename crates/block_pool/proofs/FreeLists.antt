-- The free list after a block's count has changed.
use Rattle.std.proofs.Common.{◌≡◌, ℕ, ◌+◌, ◌*◌, ◌<◌, ◌≤◌, List, [], ◌∷◌, ◌++◌, length, get_or, set, cond, eqb, count_by, refl, ap, ap₂, sym, ◌∙◌, subst, ⊎_elim, arith, length-append, length-set}
use Rattle.std.proofs.lemmas.List.{length_push, get_or-set_same, get_or-set_other, get_or_append_left, get_or_push, take_at}
use Rattle.std.proofs.lemmas.Grind.{common_steps}
use Rattle.std.proofs.lemmas.List.Sums.{sum_by-set, sum_by_push, count_by-le-length}
use Rattle.std.proofs.lemmas.List.Elements.{All-nil, All-push, All-get_or, All-take}
use Rattle.std.proofs.lemmas.Bool.{cases_eq, cases_lt, eq-eqb, ne_eqb}
use Rattle.block_pool.specs.Blocks.{over, places_of, IsWithinLimits}
use Rattle.block_pool.specs.FreeList.{IsFreeList, IsStored}
use Rattle.block_pool.proofs.Stored.{below, length-over}

-- 1 for a free block, 0 for another
abbrev free_of : ℕ → ℕ
free_of count = cond (eqb count 0) 1 0

free_of-held : (c : ℕ) → 0 < c → free_of c ≡ 0
free_of-held c h = ap (λ t. cond t 1 0) (ne_eqb c 0 (omega arith))

-- what the list says of one block, after that block's count has changed
free_at-same : (counts : List ℕ) (b c : ℕ) → b < length counts → free_of (get_or (set counts b c) b 0) ≡ free_of c
free_at-same counts b c l = ap free_of (get_or-set_same counts b c 0 l)

free_at-other : (counts : List ℕ) (b c x : ℕ) → (x ≡ b → ⊥) → free_of (get_or (set counts b c) x 0) ≡ free_of (get_or counts x 0)
free_at-other counts b c x ne = ap free_of (get_or-set_other counts b x c 0 ne)

-- the blocks that are free
abbrev free_blocks : List ℕ → ℕ
free_blocks counts = count_by (λ c. eqb c 0) counts

free_blocks-set : (counts : List ℕ) (b c : ℕ) → b < length counts → free_blocks (set counts b c) + free_of (get_or counts b 0) ≡ free_blocks counts + free_of c
free_blocks-set counts b c l = sum_by-set free_of counts b c 0 l

pub free_blocks-below : (counts : List ℕ) (b : ℕ) → 0 < get_or counts b 0 → free_blocks counts < length counts
free_blocks-below counts b h =
    let l : b < length counts = below counts b h in
    let change : free_blocks (set counts b 0) + free_of (get_or counts b 0) ≡ free_blocks counts + 1 = free_blocks-set counts b 0 l in
    omega (arith, free_of-held (get_or counts b 0) h, count_by-le-length (λ c. eqb c 0) (set counts b 0), length-set counts b 0)

pub free_blocks-few : (counts : List ℕ) → free_blocks counts ≤ length counts
free_blocks-few counts = count_by-le-length (λ c. eqb c 0) counts

places_of-push : (list : List ℕ) (b x : ℕ) → places_of x (list ++ b ∷ []) ≡ places_of x list + cond (eqb b x) 1 0
places_of-push list b x = sum_by_push (λ y. cond (eqb y x) 1 0) list b

places_of-push_same : (list : List ℕ) (b : ℕ) → places_of b (list ++ b ∷ []) ≡ places_of b list + 1
places_of-push_same list b = places_of-push list b b ∙ ap (λ t. places_of b list + cond t 1 0) (eq-eqb b b refl)

places_of-push_other : (list : List ℕ) (b x : ℕ) → (x ≡ b → ⊥) → places_of x (list ++ b ∷ []) ≡ places_of x list
places_of-push_other list b x ne =
    places_of-push list b x ∙ ap (λ t. places_of x list + cond t 1 0) (ne_eqb b x (λ e. ne (sym e))) ∙ omega arith

-- a held block has another count, and is still held
pub IsFreeList-held : (counts free : List ℕ) (b c : ℕ) → IsFreeList counts free → 0 < get_or counts b 0 → 0 < c → IsFreeList (set counts b c) free
IsFreeList-held counts free b c f h new =
    let l : b < length counts = below counts b h in
    record {
      within = rw (length-set counts b c) f.within;
      once = λ x k. ⊎_elim
          (λ (e : x ≡ b). rw e (rw (free_at-same counts b c l, free_of-held c new) (f.once b l ∙ free_of-held (get_or counts b 0) h)))
          (λ ne. rw (free_at-other counts b c x ne) (f.once x (rw (length-set counts b c) at k)))
          (cases_eq x b);
      many = omega (arith, f.many, free_blocks-set counts b c l, free_of-held c new, free_of-held (get_or counts b 0) h);
    }

-- the last block of the list is free, and is then held
pub last-below : (counts free : List ℕ) (b : ℕ) → IsFreeList counts (free ++ b ∷ []) → b < length counts
last-below counts free b f =
    let at : get_or (free ++ b ∷ []) (length free) 0 < length counts =
    All-get_or (λ x. x < length counts) (free ++ b ∷ []) (length free) 0 (omega (arith, length_push free b)) f.within in
    rw (get_or_push free b 0 (length free) refl) at at

pub last-free : (counts free : List ℕ) (b : ℕ) → IsFreeList counts (free ++ b ∷ []) → get_or counts b 0 ≡ 0
last-free counts free b f = ⊎_elim
    (λ e. e)
    (λ ne. absurd (omega (arith, f.once b (last-below counts free b f), places_of-push_same free b, free_of-held (get_or counts b 0) (omega arith))))
    (cases_eq (get_or counts b 0) 0)

pub IsFreeList-take : (counts free : List ℕ) (b : ℕ) → IsFreeList counts (free ++ b ∷ []) → IsFreeList (set counts b 1) free
IsFreeList-take counts free b f =
    let l : b < length counts = last-below counts free b f in
    let z : free_of (get_or counts b 0) ≡ 1 = ap free_of (last-free counts free b f) in
    record {
      within = rw (length-set counts b 1) (rw (take_at free (b ∷ []) (length free) refl) at (All-take {X = ℕ} (λ x. x < length counts) (length free) (free ++ b ∷ []) f.within));
      once = λ x k. ⊎_elim
          (λ (e : x ≡ b). rw e (rw (free_at-same counts b 1 l) (omega (arith, f.once b l, z, places_of-push_same free b))))
          (λ ne. rw (free_at-other counts b 1 x ne) (sym (places_of-push_other free b x ne) ∙ f.once x (rw (length-set counts b 1) at k)))
          (cases_eq x b);
      many = omega (arith, f.many, length_push free b, free_blocks-set counts b 1 l, z);
    }

-- a block of count 1 becomes free, and the list names it last
pub IsFreeList-release : (counts free : List ℕ) (b : ℕ) → IsFreeList counts free → get_or counts b 0 ≡ 1 → IsFreeList (set counts b 0) (free ++ b ∷ [])
IsFreeList-release counts free b f one =
    let h : 0 < get_or counts b 0 = omega arith in
    let l : b < length counts = below counts b h in
    let z : free_of (get_or counts b 0) ≡ 0 = free_of-held (get_or counts b 0) h in
    record {
      within = rw (length-set counts b 0) (All-push (λ x. x < length counts) free b f.within l);
      once = λ x k. ⊎_elim
          (λ (e : x ≡ b). rw e (rw (free_at-same counts b 0 l) (omega (arith, f.once b l, z, places_of-push_same free b))))
          (λ ne. rw (free_at-other counts b 0 x ne, places_of-push_other free b x ne) (f.once x (rw (length-set counts b 0) at k)))
          (cases_eq x b);
      many = omega (arith, f.many, length_push free b, free_blocks-set counts b 0 l, z);
    }

-- the first block that was never taken is held now
pub IsFreeList-first : (counts free : List ℕ) → IsFreeList counts free → free ≡ [] → IsFreeList (counts ++ 1 ∷ []) free
IsFreeList-first counts free f none = rw none (record {
  within = All-nil (λ b. b < length (counts ++ 1 ∷ []));
  once = λ x k. sym (⊎_elim
      (λ l. ap free_of (get_or_append_left counts (1 ∷ []) 0 x l) ∙ sym (f.once x l) ∙ ap (places_of x) none)
      (λ past. ap free_of (get_or_push counts 1 0 x (omega (arith, past, k, length_push counts 1))))
      (cases_lt x (length counts)));
  many = sym (sum_by_push free_of counts 1 ∙ omega (arith, f.many, ap (λ l. length l) none));
})

-- the pool's lists after a new count and a new free list
pub stored_after : (size many : ℕ) (counts bytes free free' : List ℕ) (counts_room bytes_room free_room room' b c : ℕ) → IsStored size many counts bytes free counts_room bytes_room free_room → free_room ≤ room' → IsFreeList (set counts b c) free'
    → IsStored size many (set counts b c) bytes free' counts_room bytes_room room'
stored_after size many counts bytes free free' counts_room bytes_room free_room room' b c s more f =
    let len : length (set counts b c) ≡ length counts = length-set counts b c in
    record {
      limits = s.limits;
      few = omega (arith, s.few, len);
      every_byte = s.every_byte ∙ ap (λ n. n * size) (sym len);
      free_list = f;
      counts_fit = s.counts_fit;
      bytes_fit = s.bytes_fit;
      free_fit = omega (arith, s.free_fit);
    }

pub IsStored-held : (size many : ℕ) (counts bytes free : List ℕ) (counts_room bytes_room free_room b c : ℕ) → IsStored size many counts bytes free counts_room bytes_room free_room → 0 < get_or counts b 0 → 0 < c
    → IsStored size many (set counts b c) bytes free counts_room bytes_room free_room
IsStored-held size many counts bytes free counts_room bytes_room free_room b c s h new =
    stored_after size many counts bytes free free counts_room bytes_room free_room free_room b c s (omega arith) (IsFreeList-held counts free b c s.free_list h new)

-- other bytes
pub stored-over : (size many : ℕ) (counts bytes free : List ℕ) (counts_room bytes_room free_room at : ℕ) (new : List ℕ) → IsStored size many counts bytes free counts_room bytes_room free_room → at + length new ≤ length bytes
    → IsStored size many counts (over bytes at new) free counts_room bytes_room free_room
stored-over size many counts bytes free counts_room bytes_room free_room at new s fits = record {
  limits = s.limits;
  few = s.few;
  every_byte = length-over bytes at new fits ∙ s.every_byte;
  free_list = s.free_list;
  counts_fit = s.counts_fit;
  bytes_fit = s.bytes_fit;
  free_fit = s.free_fit;
}

-- the first block that was never taken has a count and bytes
pub stored-first : (size many : ℕ) (counts bytes free more : List ℕ) (counts_room bytes_room free_room counts_room' bytes_room' : ℕ) → IsStored size many counts bytes free counts_room bytes_room free_room
    → length more ≡ size → free ≡ [] → length counts < many → counts_room ≤ counts_room' → bytes_room ≤ bytes_room'
    → IsStored size many (counts ++ 1 ∷ []) (bytes ++ more) free counts_room' bytes_room' free_room
stored-first size many counts bytes free more counts_room bytes_room free_room counts_room' bytes_room' s whole none left more_counts more_bytes = record {
  limits = s.limits;
  few = omega (arith, left, length_push counts 1);
  every_byte = length-append bytes more ∙ ap₂ (λ a b. a + b) s.every_byte whole ∙ next_row (length counts) ∙ ap (λ n. n * size) (sym (length_push counts 1));
  free_list = IsFreeList-first counts free s.free_list none;
  counts_fit = omega (arith, s.counts_fit);
  bytes_fit = omega (arith, s.bytes_fit);
  free_fit = s.free_fit;
}
  where
    next_row : (n : ℕ) → n * size + size ≡ (n + 1) * size
    next_row n = omega arith

-- the same with another list of the free blocks, which names the same
pub stored-same : (size many : ℕ) (counts bytes free free' : List ℕ) (counts_room bytes_room free_room free_room' : ℕ) → IsStored size many counts bytes free counts_room bytes_room free_room → free' ≡ free → free_room ≤ free_room'
    → IsStored size many counts bytes free' counts_room bytes_room free_room'
stored-same size many counts bytes free free' counts_room bytes_room free_room free_room' s same more = record {
  limits = s.limits;
  few = s.few;
  every_byte = s.every_byte;
  free_list = subst (IsFreeList counts) (sym same) s.free_list;
  counts_fit = s.counts_fit;
  bytes_fit = s.bytes_fit;
  free_fit = omega (arith, s.free_fit);
}

-- there is room for the bytes of one block more
pub row-fits : (size many n : ℕ) → n < many → n * size + size ≤ many * size
row-fits size many n l =
    let within : (n + 1) * size ≤ many * size = grind (arith, common_steps) in
    omega arith

-- a pool of which no block was taken
pub stored-none : (size many : ℕ) (counts_room bytes_room free_room : ℕ) → IsWithinLimits many size → many ≤ counts_room → many * size ≤ bytes_room → many ≤ free_room → IsStored size many [] [] [] counts_room bytes_room free_room
stored-none size many counts_room bytes_room free_room limits counts_fit bytes_fit free_fit = record {
  limits = limits;
  few = omega arith;
  every_byte = omega arith;
  free_list = record { within = All-nil (λ b. b < 0); once = λ b l. absurd (omega (arith, l)); many = refl };
  counts_fit = counts_fit;
  bytes_fit = bytes_fit;
  free_fit = free_fit;
}
