-- A body is read block by block.
use Rattle.std.proofs.Common.{◌≡◌, ℕ, zero, suc, ◌+◌, ◌-◌, ◌*◌, ◌<◌, ◌≤◌, List, [], ◌∷◌, ◌++◌, length, get_or, take, drop, ap, ap₂, sym, arith, rules, append_assoc, length-take, length-drop, ◌∙◌}
use Rattle.std.proofs.Math.Nat.{suc-mul}
use Rattle.std.proofs.Math.Seq.{drop-append-add}
use Rattle.std.proofs.lemmas.List.{drop-drop, drop-take, same_lists, places, get_or_read}
use Rattle.std.proofs.lemmas.List.Concat.{flat_map-cons}
use Rattle.block_pool.specs.Blocks.{Blocks, count_at, bytes_at, bytes_of}
use Rattle.block_pool.proofs.BlocksLaws.{places_of-at}
use Rattle.block_bodies.specs.Bodies.{Chain, IsHeld, content_of}

-- a block that is read from a list whose blocks are held
pub held-at : (p : Blocks) (list shown : List ℕ) (i b : ℕ) → IsHeld p list → shown ≡ list → i < length shown → b ≡ get_or shown i b → 0 < count_at p b
held-at p list shown i b held same l is =
    let place = rw (← get_or_read shown i b l is 0) at (places_of-at i shown l) in
    omega (arith, held.each b, rw same at place)

-- ---- a body is read where it lies

-- the bytes of a list whose blocks are whole go on, from a block's place, with that block's
pub from-block : (p : Blocks) (list : List ℕ) (k size : ℕ) → ((i : ℕ) → i < length list → length (bytes_at p (get_or list i 0)) ≡ size) → k < length list → (rest : List ℕ) × (drop (k * size) (bytes_of p list) ≡ bytes_at p (get_or list k 0) ++ rest)
from-block p [] k size whole l = absurd (omega arith)
from-block p (b ∷ list) zero size whole l =
    let none : 0 * size ≡ 0 = omega arith in
    (bytes_of p list, ap (λ (n : ℕ). drop n (bytes_of p (b ∷ list))) none ∙ flat_map-cons (λ c. bytes_at p c) b list)
from-block p (b ∷ list) (suc k) size whole l =
    let first : length (bytes_at p b) ≡ size = whole 0 (omega arith) in
    let found = from-block p list k size (λ i within. whole (suc i) (omega (arith, within))) (omega (arith, l)) in
    let places : suc k * size ≡ length (bytes_at p b) + k * size = suc-mul k size ∙ omega (arith, first) in
    (found.0, ap₂ (λ (n : ℕ) (bytes : List ℕ). drop n bytes) places (flat_map-cons (λ c. bytes_at p c) b list) ∙ drop-append-add (bytes_at p b) (bytes_of p list) (k * size) ∙ found.1)

-- a part of a text within the first of two texts is a front of what both have from there on
front-of : (b rest : List ℕ) (w m left : ℕ) → w + m ≤ length b → m ≤ left → take m (drop w b) ≡ take (length (take m (drop w b))) (take left (drop w (b ++ rest)))
front-of b rest w m left within less = same_lists _ _ (search (rules, places)) (λ i d l. grind (arith, places))

-- part of a block's bytes, from an offset on, are those of its body from there on
pub from-offset : (p : Blocks) (x : Chain) (offset size k w m : ℕ) → ((i : ℕ) → i < length x.blocks → length (bytes_at p (get_or x.blocks i 0)) ≡ size) → k < length x.blocks → offset ≡ k * size + w → w + m ≤ size → offset + m ≤ x.len
    → take m (drop w (bytes_at p (get_or x.blocks k 0))) ≡ take (length (take m (drop w (bytes_at p (get_or x.blocks k 0))))) (drop offset (content_of p x))
from-offset p x offset size k w m whole l at within fits =
    let b : List ℕ = bytes_at p (get_or x.blocks k 0) in
    let found = from-block p x.blocks k size whole l in
    let len : x.len ≡ offset + (x.len - offset) = omega arith in
    let rest : drop offset (content_of p x) ≡ take (x.len - offset) (drop w (b ++ found.0)) =
    ap (λ (n : ℕ). drop offset (take n (bytes_of p x.blocks))) len ∙ drop-take offset (x.len - offset) (bytes_of p x.blocks)
    ∙ ap (take (x.len - offset)) (ap (λ (n : ℕ). drop n (bytes_of p x.blocks)) at ∙ sym (drop-drop w (k * size) (bytes_of p x.blocks)) ∙ ap (drop w) found.1) in
    front-of b found.0 w m (x.len - offset) (omega (arith, within, whole k l)) (omega (arith, fits)) ∙ ap (take (length (take m (drop w b)))) (sym rest)

-- ---- a body is read onto what stood before

-- what was read so far, and some more of what lies behind it
pub read-more : (content before read lent : List ℕ) (offset done n : ℕ) → read ≡ before ++ take done (drop offset content) → lent ≡ take (length lent) (drop (offset + done) content) → n ≤ length lent → 0 < n
    → read ++ take n lent ≡ before ++ take (done + n) (drop offset content)
read-more content before read lent offset done n e is less some =
    let fits : offset + done + length lent ≤ length content = omega (arith, ap (λ (bs : List ℕ). length bs) is, length-take (length lent) (drop (offset + done) content), length-drop (offset + done) content) in
    ap₂ (λ (a b : List ℕ). a ++ b) e (ap (take n) is) ∙ append_assoc before _ _
    ∙ ap (λ (bs : List ℕ). before ++ bs) (add (length lent) less fits)
  where
    add : (l : ℕ) → n ≤ l → offset + done + l ≤ length content → take done (drop offset content) ++ take n (take l (drop (offset + done) content)) ≡ take (done + n) (drop offset content)
    add l few room = same_lists _ _ (search (rules, places)) (λ i d b. grind (arith, places))
