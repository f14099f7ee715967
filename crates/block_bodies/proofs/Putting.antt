-- Bytes end a body: in a new block, in the last block, and piece by piece.
use Rattle.std.proofs.Common.{◌≡◌, ℕ, ◌+◌, ◌*◌, ◌^◌, ◌-◌, ◌<◌, ◌≤◌, List, [], ◌∷◌, ◌++◌, length, get_or, take, drop, refl, ap, sym, subst, ◌∙◌, ⊎_elim, arith, rules, append_assoc, append-nil, length-append, length-take, length-drop, length-set}
use Rattle.std.proofs.lemmas.List.{same_lists, places, take_at, take-take, take_all, take_more, length_push, get_or_push, get_or_read}
use Rattle.std.proofs.lemmas.List.Concat.{flat_map-cons}
use Rattle.std.proofs.lemmas.Bool.{cases_eq, cases_lt}
use Rattle.block_pool.specs.Blocks.{Blocks, IsPool, Takes, size_of, count_at, bytes_at, free_in, places_of, bytes_of, over, written}
use Rattle.block_pool.proofs.BlocksLaws.{count_at-taken, bytes_at-taken, free_in-taken, size_of-taken, block_size-taken, count_at-written, bytes_at-written_other, free_in-written, places_of-one_same, places_of-one_other, places_of-append, places_of-take, places_of-at, bytes_of-append, bytes_of-same, bytes_of-written, written-same, length-bytes_of, length-once}
use Rattle.block_bodies.specs.Bodies.{Chain, HasRoom, IsBodyOf, IsLastOwn, StandsOnce, blocks_with, content_of}
use Rattle.block_bodies.specs.Changes.{Puts}
use Rattle.block_bodies.proofs.BlocksFor.{blocks_for-is, blocks_for-suffice, times_le}

-- bytes that are written where a text of two parts ends lengthen the text
take-written : (front block new : List ℕ) (m at : ℕ) → length front ≡ m → at + length new ≤ length block
    → take (m + at + length new) (front ++ (over block at new ++ [])) ≡ take (m + at) (front ++ (block ++ [])) ++ new
take-written front block new m at e fits = same_lists _ _ (search (rules, places)) (λ i d l. grind (arith, places))

take-front : (front rest : List ℕ) (m : ℕ) → length front ≡ m → take (m + 0) (front ++ (rest ++ [])) ≡ front
take-front front rest m e = take_at front (rest ++ []) (m + 0) (omega arith)

-- one piece more of the bytes
pub take-piece : (bytes : List ℕ) (done n : ℕ) → done + n ≤ length bytes → take done bytes ++ take n (take (length bytes - done) (drop done bytes)) ≡ take (done + n) bytes
take-piece bytes done n h = same_lists _ _ (search (rules, places)) (λ i d l. grind (arith, places))

-- how many bytes are left after the first
pub length-rest : (bytes : List ℕ) (done : ℕ) → length (take (length bytes - done) (drop done bytes)) ≡ length bytes - done
length-rest bytes done = omega (arith, length-take (length bytes - done) (drop done bytes), length-drop done bytes)

-- after a block is taken and written
Puts-written : (p p' : Blocks) (x : Chain) (b : ℕ) (new : List ℕ) → IsPool p → IsBodyOf p x → x.len ≡ length x.blocks * p.block_size → 0 < length new → length new ≤ p.block_size → Takes p p' b
    → Puts p x new (written p' b 0 new) (record { blocks = x.blocks ++ b ∷ []; len = x.len + length new; room = x.room })
Puts-written p p' x b new pool body whole some fits t =
    let q : Blocks = written p' b 0 new in
    let count_b : count_at p' b ≡ 1 = omega (arith, count_at-taken p p' b t b, t.free, places_of-one_same b) in
    let pos : 0 < count_at p' b = omega arith in
    let none : places_of b x.blocks ≡ 0 = omega (arith, body.held.each b, t.free) in
    let size : q.block_size ≡ p.block_size = block_size-taken p p' b t in
    let same : bytes_of p' x.blocks ≡ bytes_of p x.blocks = bytes_of-same p p' x.blocks
    (λ c k. bytes_at-taken p p' b t c (λ (e : c ≡ b). let no_place : places_of c x.blocks ≡ 0 = rw e none in omega arith)) in
    let long : length (bytes_of p x.blocks) ≡ length x.blocks * p.block_size = length-bytes_of p x.blocks pool body.held.each in
    record {
      sizes = record { blocks = length-set p'.blocks b (record { count = count_at p' b; bytes = over (bytes_at p' b) 0 new }) ∙ size_of-taken p p' b t; bytes = size };
      body = record {
        held = record { each = λ c. omega (arith, count_at-written p' b 0 new pos c, count_at-taken p p' b t c, body.held.each c, places_of-append c x.blocks (b ∷ [])) };
        blocks = rw (size, length_push x.blocks b) (blocks_for-is p.block_size (x.len + length new) (length x.blocks + 1) pool.limits.some_bytes (omega arith) (omega arith));
      };
      len = refl;
      content =
          rw (bytes_of-written p' x.blocks [] b 0 new pos none refl, same, whole)
          (let add : length x.blocks * p.block_size + length new ≡ length x.blocks * p.block_size + 0 + length new = omega arith in
          rw add (take-written (bytes_of p x.blocks) (bytes_at p' b) new (length x.blocks * p.block_size) 0 long (omega (arith, t.whole))
          ∙ ap (λ front. front ++ new) (take-front (bytes_of p x.blocks) (bytes_at p' b) (length x.blocks * p.block_size) long
          ∙ sym (take_all (length x.blocks * p.block_size) (bytes_of p x.blocks) (omega (arith, long))))));
      front = take_at x.blocks (b ∷ []) (length x.blocks) refl;
      counts = λ c. omega (arith, count_at-written p' b 0 new pos c, count_at-taken p p' b t c, places_of-append c x.blocks (b ∷ []));
      others = λ c k.
          let ne : c ≡ b → ⊥ = λ (e : c ≡ b). let zero_count : count_at p c ≡ 0 = rw e t.free in absurd (omega arith) in
          bytes_at-written_other p' b 0 new c ne ∙ bytes_at-taken p p' b t c ne;
      fresh = λ c k. ⊎_elim
          (λ (e : c ≡ b). rw e t.free)
          (λ ne. absurd (omega (arith, places_of-append c x.blocks (b ∷ []), places_of-one_other b c ne)))
          (cases_eq c b);
      free = omega (arith, free_in-written p' b 0 new pos, free_in-taken p p' b t, length_push x.blocks b);
      last = λ own. record {
        own = λ k.
            let at : length (x.blocks ++ b ∷ []) - 1 ≡ length x.blocks = omega (arith, length_push x.blocks b) in
            rw (at, get_or_push x.blocks b 0 (length x.blocks) refl) (count_at-written p' b 0 new pos b ∙ count_b);
      };
    }

-- after a block is taken that begins with the bytes
pub Puts-start : (p p' : Blocks) (x : Chain) (b : ℕ) (new : List ℕ) → IsPool p → IsBodyOf p x → x.len ≡ length x.blocks * p.block_size → 0 < length new → length new ≤ p.block_size → Takes p p' b
    → take (length new) (bytes_at p' b) ≡ new
    → Puts p x new p' (record { blocks = x.blocks ++ b ∷ []; len = x.len + length new; room = x.room })
Puts-start p p' x b new pool body whole some fits t first =
    let P : Blocks → Type 0 = λ r. Puts p x new r (record { blocks = x.blocks ++ b ∷ []; len = x.len + length new; room = x.room }) in
    subst P (written-same p' b new first) (Puts-written p p' x b new pool body whole some fits t)

-- a list that is not empty, as its front and its last
split_last : (list : List ℕ) (n : ℕ) → length list ≡ n + 1 → list ≡ take n list ++ get_or list n 0 ∷ []
split_last list n e = sym (take_all (n + 1) list (omega arith)) ∙ take_more list n 0 (omega arith)

content-fill : (p : Blocks) (list before : List ℕ) (b len m at : ℕ) (new : List ℕ) → 0 < count_at p b → list ≡ before ++ b ∷ [] → places_of b before ≡ 0 → length (bytes_of p before) ≡ m → len ≡ m + at → at + length new ≤ length (bytes_at p b)
    → take (len + length new) (bytes_of (written p b at new) list) ≡ take len (bytes_of p list) ++ new
content-fill p list before b len m at new pos split none long end fits =
    rw (split, end, bytes_of-written p before [] b at new pos none refl, bytes_of-append p before (b ∷ []), flat_map-cons (λ c. bytes_at p c) b [])
    (take-written (bytes_of p before) (bytes_at p b) new m at long fits)

-- after the last block is written
pub Puts-fill : (p : Blocks) (x : Chain) (n at : ℕ) (new : List ℕ) → IsPool p → IsBodyOf p x → IsLastOwn p x → length x.blocks ≡ n + 1 → x.len ≡ n * p.block_size + at → 0 < at → at < p.block_size → at + length new ≤ p.block_size
    → Puts p x new (written p (get_or x.blocks n 0) at new) (record x { len = x.len + length new })
Puts-fill p x n at new pool body last long end partial within fits =
    let b : ℕ = get_or x.blocks n 0 in
    let q : Blocks = written p (get_or x.blocks n 0) at new in
    let place : n < length x.blocks = omega arith in
    let end_of_list : length x.blocks - 1 ≡ n = omega arith in
    let all : length x.blocks * p.block_size ≡ n * p.block_size + p.block_size = rw long (omega arith) in
    let one : count_at p (get_or x.blocks n 0) ≡ 1 = rw (← end_of_list) (last.own (omega arith)) in
    let pos : 0 < count_at p (get_or x.blocks n 0) = omega arith in
    let split : x.blocks ≡ take n x.blocks ++ get_or x.blocks n 0 ∷ [] = split_last x.blocks n long in
    let none : places_of (get_or x.blocks n 0) (take n x.blocks) ≡ 0 =
    omega (
      arith,
      body.held.each (get_or x.blocks n 0),
      places_of-append (get_or x.blocks n 0) (take n x.blocks) (get_or x.blocks n 0 ∷ []),
      places_of-one_same (get_or x.blocks n 0),
      ap (λ list. places_of (get_or x.blocks n 0) list) split,
    ) in
    let front_held : (c : ℕ) → places_of c (take n x.blocks) ≤ count_at p c = λ c. omega (arith, body.held.each c, places_of-take c n x.blocks) in
    let front_long : length (bytes_of p (take n x.blocks)) ≡ n * p.block_size =
    length-bytes_of p (take n x.blocks) pool front_held ∙ ap (λ k. k * p.block_size) (length-take n x.blocks ∙ omega arith) in
    record {
      sizes = record { blocks = length-set p.blocks b (record { count = count_at p b; bytes = over (bytes_at p b) at new }); bytes = refl };
      body = record {
        held = record { each = λ c. omega (arith, count_at-written p b at new pos c, body.held.each c) };
        blocks = blocks_for-is p.block_size (x.len + length new) (length x.blocks) pool.limits.some_bytes (omega arith) (omega arith);
      };
      len = refl;
      content = content-fill p x.blocks (take n x.blocks) (get_or x.blocks n 0) x.len (n * p.block_size) at new pos split none front_long end (omega (arith, pool.whole b pos));
      front = take_all (length x.blocks) x.blocks (omega arith);
      counts = λ c. ap (λ k. k + places_of c x.blocks) (count_at-written p b at new pos c);
      others = λ c k. bytes_at-written_other p b at new c
          (λ (e : c ≡ b). let same_count : count_at p c ≡ 1 = rw e one in
          let some_place : 0 < places_of c x.blocks = rw e (places_of-at n x.blocks place) in
          absurd (omega arith));
      fresh = λ c k. absurd (omega arith);
      free = ap (λ k. k + length x.blocks) (free_in-written p b at new pos);
      last = λ own. record { own = λ k. rw end_of_list (count_at-written p b at new pos b ∙ one) };
    }

pub Puts-none : (p : Blocks) (x : Chain) → IsBodyOf p x → Puts p x [] p x
Puts-none p x body = record {
  sizes = record { blocks = refl; bytes = refl };
  body = body;
  len = omega arith;
  content = sym (append-nil (content_of p x));
  front = take_all (length x.blocks) x.blocks (omega arith);
  counts = λ b. refl;
  others = λ b k. refl;
  fresh = λ b k. absurd (omega arith);
  free = refl;
  last = λ own. own;
}

-- a body has as many blocks as before, or more
pub Puts-longer : {p q : Blocks} {x y : Chain} {a : List ℕ} → Puts p x a q y → length x.blocks ≤ length y.blocks
Puts-longer {x = x} {y} f = omega (arith, length-take (length x.blocks) y.blocks, ap (λ (list : List ℕ). length list) f.front)

-- the block that was read last of the list is held once, where it is not full
pub own-at : (p : Blocks) (x : Chain) (list : List ℕ) (i b at : ℕ) → IsLastOwn p x → x.len + p.block_size ≡ length x.blocks * p.block_size + at → at < p.block_size → list ≡ x.blocks → b ≡ get_or list i b → i + 1 ≡ length list
    → count_at p b ≡ 1
own-at p x list i b at own end small same read last =
    let place : length x.blocks - 1 ≡ i = omega (arith, ap (λ (bs : List ℕ). length bs) same) in
    rw (get_or_read list i b (omega arith) read 0, same, ← place) (own.own (omega arith))

-- room for the blocks that more bytes need
pub HasRoom-made : (p : Blocks) (x y : Chain) (more needed : ℕ) → blocks_with p x more ≡ length x.blocks + needed → y.len ≡ x.len → length y.blocks ≡ length x.blocks → length y.blocks + needed ≤ y.room → needed ≤ free_in p
    → HasRoom p y more
HasRoom-made p x y more needed e len same listed free = record { listed = rw len (omega (arith, e, same)); free = rw len (omega (arith, e, same)) }

-- after the first bytes are put there is room for the rest
pub HasRoom-rest : (p q : Blocks) (x y : Chain) (bytes : List ℕ) (done : ℕ) → Puts p x (take done bytes) q y → y.room ≡ x.room → done ≤ length bytes → HasRoom p x (length bytes)
    → HasRoom q y (length (take (length bytes - done) (drop done bytes)))
HasRoom-rest p q x y bytes done f same within h =
    let len : y.len + length (take (length bytes - done) (drop done bytes)) ≡ x.len + length bytes = omega (arith, f.len, length-take done bytes, length-rest bytes done) in
    record { listed = rw (f.sizes.bytes, len, same) h.listed; free = rw (f.sizes.bytes, len) (omega (arith, h.free, f.free)) }

pub Puts-then : (p q r : Blocks) (x y z : Chain) (a b : List ℕ) → Puts p x a q y → Puts q y b r z → Puts p x (a ++ b) r z
Puts-then p q r x y z a b f g =
    let longer : length x.blocks ≤ length y.blocks = Puts-longer f in
    record {
      sizes = record { blocks = g.sizes.blocks ∙ f.sizes.blocks; bytes = g.sizes.bytes ∙ f.sizes.bytes };
      body = g.body;
      len = omega (arith, f.len, g.len, length-append a b);
      content = g.content ∙ ap (λ c. c ++ b) f.content ∙ append_assoc (content_of p x) a b;
      front = sym (take-take (length x.blocks) (length y.blocks) z.blocks longer) ∙ ap (λ list. take (length x.blocks) list) g.front ∙ f.front;
      counts = λ c. omega (arith, f.counts c, g.counts c);
      others = λ c k. g.others c (omega (arith, f.counts c)) ∙ f.others c k;
      fresh = λ c k. ⊎_elim
          (λ (l : places_of c x.blocks < places_of c y.blocks). f.fresh c l)
          (λ (l : places_of c y.blocks ≤ places_of c x.blocks).
          omega (
            arith,
            g.fresh c (omega arith),
            f.counts c,
            f.body.held.each c,
            places_of-take c (length x.blocks) y.blocks,
            ap (λ list. places_of c list) f.front,
          ))
          (cases_lt (places_of c x.blocks) (places_of c y.blocks));
      free = omega (arith, f.free, g.free);
      last = λ own. g.last (f.last own);
    }

-- a body has no more bytes than its pool
pub len-fits : (p : Blocks) (x : Chain) → IsPool p → IsBodyOf p x → StandsOnce x.blocks → (x.len ≤ length x.blocks * p.block_size) × (length x.blocks + free_in p < 2 ^ 32) × (length x.blocks * p.block_size ≤ 2 ^ 44)
len-fits p x pool body alone =
    let few : length x.blocks + free_in p ≤ size_of p = length-once p x.blocks alone.once body.held.each in (
      rw body.blocks (blocks_for-suffice p.block_size x.len pool.limits.some_bytes),
      omega (arith, pool.limits.few_blocks),
      omega (arith, pool.limits.small_pool, times_le p.block_size (length x.blocks) (size_of p) (omega arith)),
    )

pub StandsOnce-push : (list : List ℕ) (b : ℕ) → StandsOnce list → places_of b list ≡ 0 → StandsOnce (list ++ b ∷ [])
StandsOnce-push list b s none = record {
  once = λ c. ⊎_elim
      (λ (e : c ≡ b). rw e (omega (arith, places_of-append b list (b ∷ []), places_of-one_same b)))
      (λ ne. omega (arith, s.once c, places_of-append c list (b ∷ []), places_of-one_other b c ne))
      (cases_eq c b);
}
