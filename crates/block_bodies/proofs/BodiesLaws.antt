-- Laws of bodies for the crates above: what a call on one body leaves of another, and how many blocks bytes take.
use Rattle.std.proofs.Common.{◌≡◌, ℕ, ◌+◌, ◌*◌, ◌<◌, ◌≤◌, List, [], ◌++◌, length, take, ap, sym, ◌∙◌, arith, length-take}
use Rattle.block_pool.specs.Blocks.{Blocks, IsPool, count_at, bytes_at, places_of, bytes_of}
use Rattle.block_pool.proofs.BlocksLaws.{bytes_of-same, length-bytes_of, places_of-append}
use Rattle.block_bodies.specs.Bodies.{Chain, IsBodyOf, IsHeld, IsLastOwn, content_of, blocks_for}
use Rattle.block_bodies.specs.Changes.{Puts, SameSizes, MayHold, Holds, GivesBack}
use Rattle.block_bodies.proofs.EachBlock.{SameSizes-then, free_in-given_back}
use Rattle.block_bodies.proofs.BlocksFor.{blocks_for-suffice, blocks_for-least}

-- a body has as many bytes as its length says
pub length-content_of : (p : Blocks) (x : Chain) → IsPool p → IsBodyOf p x → length (content_of p x) ≡ x.len
length-content_of p x pool body =
    let enough : x.len ≤ length x.blocks * p.block_size = rw body.blocks (blocks_for-suffice p.block_size x.len pool.limits.some_bytes) in
    omega (arith, length-take x.len (bytes_of p x.blocks), length-bytes_of p x.blocks pool body.held.each)

-- no bytes take no block, so an empty body is one of every pool
pub blocks_for-none : (size : ℕ) → 0 < size → blocks_for size 0 ≡ 0
blocks_for-none size h = omega (arith, blocks_for-least size 0 0 h (omega arith))

pub IsBodyOf-empty : (p : Blocks) (x : Chain) → IsPool p → x.blocks ≡ [] → x.len ≡ 0 → IsBodyOf p x
IsBodyOf-empty p x pool none no_bytes = record {
  held = record { each = λ b. rw none (omega arith) };
  blocks = ap (λ (list : List ℕ). length list) none ∙ sym (blocks_for-none p.block_size pool.limits.some_bytes) ∙ ap (λ n. blocks_for p.block_size n) (sym no_bytes);
}

pub IsLastOwn-empty : (p : Blocks) (x : Chain) → x.blocks ≡ [] → IsLastOwn p x
IsLastOwn-empty p x none = record {
  own = λ k.
      let no_blocks : length x.blocks ≡ 0 = ap (λ (list : List ℕ). length list) none in
      let nothing : length x.blocks * p.block_size ≡ 0 = rw no_blocks (omega arith) in
      absurd (omega arith);
}

-- a body stays one, with its bytes
pub record Stays (p : Blocks) (q : Blocks) (z : Chain) : Type 0 where
  pub body : IsBodyOf q z
  pub content : content_of q z ≡ content_of p z

-- it does where its blocks are still held and keep their bytes
pub Stays-from : (p q : Blocks) (z : Chain) → IsBodyOf p z → q.block_size ≡ p.block_size → ((b : ℕ) → places_of b z.blocks ≤ count_at q b) → ((b : ℕ) → 0 < places_of b z.blocks → bytes_at q b ≡ bytes_at p b) → Stays p q z
Stays-from p q z body size counts bytes = record {
  body = record { held = record { each = counts }; blocks = body.blocks ∙ ap (λ s. blocks_for s z.len) (sym size) };
  content = ap (λ bs. take z.len bs) (bytes_of-same p q z.blocks bytes);
}

-- another body, held beside the one that grows
pub Stays-put : (p q : Blocks) (x y z : Chain) (bytes : List ℕ) → Puts p x bytes q y → IsBodyOf p z → ((b : ℕ) → places_of b x.blocks + places_of b z.blocks ≤ count_at p b) → Stays p q z
Stays-put p q x y z bytes f body apart = Stays-from p q z body f.sizes.bytes
    (λ b. omega (arith, f.counts b, apart b))
    (λ b k. f.others b (omega (arith, apart b)))

-- any body, while a list is held once more
pub Stays-held : (p q : Blocks) (list : List ℕ) (z : Chain) → Holds p list q → IsBodyOf p z → Stays p q z
Stays-held p q list z h body = Stays-from p q z body h.sizes.bytes
    (λ b. omega (arith, h.counts b, body.held.each b))
    (λ b k. h.bytes b)

-- another body, held beside the one that is given back
pub Stays-given_back : (p q : Blocks) (list : List ℕ) (freed : ℕ) (z : Chain) → GivesBack p list freed q → IsBodyOf p z → ((b : ℕ) → places_of b list + places_of b z.blocks ≤ count_at p b) → Stays p q z
Stays-given_back p q list freed z g body apart = Stays-from p q z body g.sizes.bytes
    (λ b. omega (arith, g.counts b, apart b))
    (λ b k. g.bytes b (omega (arith, g.counts b, apart b)))

-- the copy of a body is a body of the same bytes
pub Holds-copy : (p q : Blocks) (x y : Chain) → Holds p x.blocks q → IsBodyOf p x → y.blocks ≡ x.blocks → y.len ≡ x.len → IsBodyOf q y × (content_of q y ≡ content_of p x)
Holds-copy p q x y h body blocks len =
    let stays : Stays p q x = Stays-held p q x.blocks x h body in (
      record {
        held = record { each = λ b. rw blocks (stays.body.held.each b) };
        blocks = rw (blocks, len) stays.body.blocks;
      },
      rw (blocks, len) stays.content,
    )

-- a list is held, or given back, as its parts are
pub MayHold-parts : (p q : Blocks) (xs ys : List ℕ) → MayHold p (xs ++ ys) → MayHold p xs × (Holds p xs q → MayHold q ys)
MayHold-parts p q xs ys may = (
  record {
    held = λ b k. may.held b (omega (arith, places_of-append b xs ys));
    fits = λ b k. omega (arith, may.fits b (omega (arith, places_of-append b xs ys)), places_of-append b xs ys);
  },
  λ h. record {
    held = λ b k. omega (arith, may.held b (omega (arith, places_of-append b xs ys)), h.counts b);
    fits = λ b k. omega (arith, may.fits b (omega (arith, places_of-append b xs ys)), places_of-append b xs ys, h.counts b);
  },
)

pub Holds-parts : (p q r : Blocks) (xs ys : List ℕ) → Holds p xs q → Holds q ys r → Holds p (xs ++ ys) r
Holds-parts p q r xs ys f g = record {
  sizes = SameSizes-then p q r f.sizes g.sizes.blocks g.sizes.bytes;
  counts = λ b. omega (arith, f.counts b, g.counts b, places_of-append b xs ys);
  bytes = λ b. g.bytes b ∙ f.bytes b;
  free = g.free ∙ f.free;
}

pub IsHeld-parts : (p q : Blocks) (xs ys : List ℕ) (freed : ℕ) → IsHeld p (xs ++ ys) → IsHeld p xs × (GivesBack p xs freed q → IsHeld q ys)
IsHeld-parts p q xs ys freed h = (
  record { each = λ b. omega (arith, h.each b, places_of-append b xs ys) },
  λ g. record { each = λ b. omega (arith, h.each b, g.counts b, places_of-append b xs ys) },
)

pub GivesBack-parts : (p q r : Blocks) (xs ys : List ℕ) (m n : ℕ) → GivesBack p xs m q → GivesBack q ys n r → GivesBack p (xs ++ ys) (m + n) r
GivesBack-parts p q r xs ys m n f g =
    let sizes : SameSizes p r = SameSizes-then p q r f.sizes g.sizes.blocks g.sizes.bytes in
    let counts : (b : ℕ) → count_at r b + places_of b (xs ++ ys) ≡ count_at p b = λ b. omega (arith, f.counts b, g.counts b, places_of-append b xs ys) in
    record {
      sizes = sizes;
      counts = counts;
      bytes = λ b k. g.bytes b k ∙ f.bytes b (omega (arith, g.counts b));
      number = omega (arith, f.free, g.free, free_in-given_back p r (xs ++ ys) sizes.blocks counts);
      free = omega (arith, f.free, g.free);
    }
