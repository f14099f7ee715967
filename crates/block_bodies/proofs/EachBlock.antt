-- A list's blocks are held, or given back, one after the other.
use Rattle.std.proofs.Common.{◌≡◌, ℕ, ◌+◌, ◌-◌, ◌^◌, ◌<◌, ◌≤◌, List, [], length, get_or, take, cond, eqb, refl, ap, sym, ◌∙◌, arith, length-set}
use Rattle.std.specs.Prelude.{Bool, nat_lt, ◌&&◌, count_by, ◌∷◌}
use Rattle.std.specs.List.{range_with_len}
use Rattle.std.proofs.lemmas.List.Sums.{sum_by-append}
use Rattle.std.proofs.lemmas.Bool.Decides.{nat_tests}
use Rattle.block_pool.specs.Blocks.{Blocks, free_block, size_of, count_at, bytes_at, free_in, places_of, held, released}
use Rattle.block_pool.proofs.BlocksLaws.{count_at-held, bytes_at-held, free_in-held, count_at-released, bytes_at-released, free_in-released, free_in-numbers, places_of-take, places_of-take_more, places_of-at, places_of-one_same}
use Rattle.block_bodies.specs.Bodies.{IsHeld}
use Rattle.block_bodies.specs.Changes.{SameSizes, MayHold, Holds, GivesBack, freed_by}

pub SameSizes-then : (p q r : Blocks) → SameSizes p q → size_of r ≡ size_of q → r.block_size ≡ q.block_size → SameSizes p r
SameSizes-then p q r s blocks bytes = record { blocks = blocks ∙ s.blocks; bytes = bytes ∙ s.bytes }

-- the places of the block at a place, up to it and with it
places-here : (list : List ℕ) (i : ℕ) → i < length list → places_of (get_or list i 0) (take (i + 1) list) ≡ places_of (get_or list i 0) (take i list) + 1
places-here list i l =
    places_of-take_more (get_or list i 0) i list l ∙ ap (λ n. places_of (get_or list i 0) (take i list) + n) (places_of-one_same (get_or list i 0))

places-within : (list : List ℕ) (i : ℕ) → i < length list → places_of (get_or list i 0) (take i list) + 1 ≤ places_of (get_or list i 0) list
places-within list i l = omega (arith, places-here list i l, places_of-take (get_or list i 0) (i + 1) list)

pub Holds-none : (p : Blocks) → Holds p [] p
Holds-none p = record {
  sizes = record { blocks = refl; bytes = refl };
  counts = λ b. omega arith;
  bytes = λ b. refl;
  free = refl;
}

pub hold-held : (p : Blocks) (list : List ℕ) (q : Blocks) (i : ℕ) → MayHold p list → Holds p (take i list) q → i < length list → 0 < count_at q (get_or list i 0)
hold-held p list q i may h l = omega (arith, may.held (get_or list i 0) (places_of-at i list l), h.counts (get_or list i 0))

pub hold-fits : (p : Blocks) (list : List ℕ) (q : Blocks) (i : ℕ) → MayHold p list → Holds p (take i list) q → i < length list → count_at q (get_or list i 0) + 1 < 2 ^ 64
hold-fits p list q i may h l = omega (arith, may.fits (get_or list i 0) (places_of-at i list l), h.counts (get_or list i 0), places-within list i l)

pub Holds-more : (p : Blocks) (list : List ℕ) (q : Blocks) (i : ℕ) → MayHold p list → Holds p (take i list) q → i < length list → Holds p (take (i + 1) list) (held q (get_or list i 0))
Holds-more p list q i may h l =
    let b : ℕ = get_or list i 0 in
    let pos : 0 < count_at q b = hold-held p list q i may h l in
    record {
      sizes = SameSizes-then p q (held q b) h.sizes (length-set q.blocks b (record { count = count_at q b + 1; bytes = bytes_at q b })) refl;
      counts = λ c. omega (arith, count_at-held q b pos c, h.counts c, places_of-take_more c i list l);
      bytes = λ c. bytes_at-held q b pos c ∙ h.bytes c;
      free = free_in-held q b pos ∙ h.free;
    }

-- the free blocks after every block is held once less for each of its places in a list
one_freed : (after places before : ℕ) → after + places ≡ before
    → cond {A = ℕ} (eqb after 0) 1 0 ≡ cond {A = ℕ} (eqb before 0) 1 0 + cond {A = ℕ} (nat_lt 0 before && eqb before places) 1 0
one_freed after places before e = grind (arith, nat_tests)

count_by-both : (f g h : ℕ → Bool) (numbers : List ℕ) → ((b : ℕ) → cond {A = ℕ} (f b) 1 0 ≡ cond {A = ℕ} (g b) 1 0 + cond {A = ℕ} (h b) 1 0) → count_by f numbers ≡ count_by g numbers + count_by h numbers
count_by-both f g h [] each = refl
count_by-both f g h (b ∷ numbers) each =
    omega (
      arith,
      each b,
      count_by-both f g h numbers each,
      sum_by-append (λ x. cond {A = ℕ} (f x) 1 0) (b ∷ []) numbers,
      sum_by-append (λ x. cond {A = ℕ} (g x) 1 0) (b ∷ []) numbers,
      sum_by-append (λ x. cond {A = ℕ} (h x) 1 0) (b ∷ []) numbers,
    )

pub free_in-given_back : (p q : Blocks) (list : List ℕ) → size_of q ≡ size_of p → ((b : ℕ) → count_at q b + places_of b list ≡ count_at p b) → free_in q ≡ free_in p + freed_by p list
free_in-given_back p q list size counts =
    free_in-numbers q
    ∙ ap (λ n. count_by (λ b. eqb (count_at q b) 0) (range_with_len 0 n)) size
    ∙ count_by-both (λ b. eqb (count_at q b) 0) (λ b. eqb (count_at p b) 0) (λ b. nat_lt 0 (count_at p b) && eqb (count_at p b) (places_of b list)) (range_with_len 0 (size_of p))
    (λ b. one_freed (count_at q b) (places_of b list) (count_at p b) (counts b))
    ∙ ap (λ n. n + freed_by p list) (sym (free_in-numbers p))

pub GivesBack-none : (p : Blocks) → GivesBack p [] (free_in p - free_in p) p
GivesBack-none p = record {
  sizes = record { blocks = refl; bytes = refl };
  counts = λ b. omega arith;
  bytes = λ b h. refl;
  number = omega (arith, free_in-given_back p p [] refl (λ b. omega arith));
  free = omega arith;
}

pub release-held : (p : Blocks) (list : List ℕ) (q : Blocks) (n i : ℕ) → IsHeld p list → GivesBack p (take i list) n q → i < length list → 0 < count_at q (get_or list i 0)
release-held p list q n i h g l = omega (arith, h.each (get_or list i 0), g.counts (get_or list i 0), places-within list i l)

pub GivesBack-more : (p : Blocks) (list : List ℕ) (q : Blocks) (n i : ℕ) → IsHeld p list → GivesBack p (take i list) n q → i < length list
    → GivesBack p (take (i + 1) list) (free_in (released q (get_or list i 0)) - free_in p) (released q (get_or list i 0))
GivesBack-more p list q n i h g l =
    let b : ℕ = get_or list i 0 in
    let pos : 0 < count_at q b = release-held p list q n i h g l in
    let sizes : SameSizes p (released q b) =
    SameSizes-then p q (released q b) g.sizes (length-set q.blocks b (cond (eqb (count_at q b) 1) free_block (record { count = count_at q b - 1; bytes = bytes_at q b }))) refl in
    let counts : (c : ℕ) → count_at (released q b) c + places_of c (take (i + 1) list) ≡ count_at p c =
    λ c. omega (arith, count_at-released q b pos c, g.counts c, places_of-take_more c i list l) in
    record {
      sizes = sizes;
      counts = counts;
      bytes = λ c k. bytes_at-released q b pos c k ∙ g.bytes c (omega (arith, count_at-released q b pos c));
      number = omega (arith, free_in-given_back p (released q b) (take (i + 1) list) sizes.blocks counts);
      free = omega (arith, free_in-released q b pos, g.free);
    }
