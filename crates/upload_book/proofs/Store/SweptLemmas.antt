-- Uploads of a tenant end, the last of all first, and those that are left stay.
use Rattle.std.proofs.Common.{◌≡◌, ℕ, ◌+◌, ◌-◌, ◌<◌, ◌≤◌, Bool, not, List, [], ◌∷◌, ◌++◌, length, get_or, take, drop, Option, Some, refl, ap, sym, ◌∙◌, subst, arith}
use Rattle.std.specs.List.{Contains, flat_map, sum_by}
use Rattle.std.specs.List.Sorted.{IsPermutation}
use Rattle.std.specs.Option.{option_to_list}
use Rattle.std.proofs.lemmas.List.{drop-drop, get_or-take, get_or_push, take-append-drop, take-append-le, take-take, take_all}
use Rattle.std.proofs.Math.ListN.{length-append}
use Rattle.std.proofs.lemmas.List.Elements.{All-filter}
use Rattle.std.proofs.lemmas.List.Sorted.{sum_by-IsPermutation}
use Rattle.std.proofs.lemmas.List.Sums.{sum_by-append, sum_by-drop_more, sum_by-take-drop}
use Rattle.block_pool.specs.Blocks.{Blocks, count_at, free_in, places_of}
use Rattle.block_pool.proofs.BlocksLaws.{places_of-append}
use Rattle.block_bodies.specs.Bodies.{IsHeld}
use Rattle.block_bodies.specs.Changes.{GivesBack}
use Rattle.block_bodies.proofs.BodiesLaws.{GivesBack-parts}
use Rattle.block_bodies.proofs.EachBlock.{free_in-given_back}
use Rattle.upload_book.specs.declared.pieces.Piece.{Piece}
use Rattle.upload_book.specs.Expiry.{has_expired}
use Rattle.upload_book.specs.inside.ChargeAfter.{left}
use Rattle.upload_book.specs.inside.Kept.{AreInOrder}
use Rattle.upload_book.specs.inside.Pieces.{HasNoLaterPiece}
use Rattle.upload_book.specs.inside.Swept.{EndsExpired}
use Rattle.upload_book.specs.Stored.{StoredTenant, StoredUpload, pieces_of, placed_in}
use Rattle.upload_book.specs.TenantBook.{Entry}
use Rattle.upload_book.proofs.Lawful.Entries.{Contains-filter, ascending-filter}
use Rattle.upload_book.proofs.Store.Pieces.{Contains-flat_map, Leaves, flat_map-contains, kept_pieces, places_at, places-entries}

-- the blocks of some uploads
abbrev pub placed_by : List (Entry StoredUpload) → List ℕ
placed_by entries = placed_in (flat_map kept_pieces entries)

-- blocks are given back in any order
GivesBack-moved : (p q : Blocks) (xs ys : List ℕ) (freed : ℕ) → ((b : ℕ) → places_of b xs ≡ places_of b ys) → GivesBack p xs freed q → GivesBack p ys freed q
GivesBack-moved p q xs ys freed same g =
    let counts : (b : ℕ) → count_at q b + places_of b ys ≡ count_at p b = λ b. omega (arith, g.counts b, same b) in
    record {
      sizes = g.sizes;
      counts = counts;
      bytes = g.bytes;
      number = omega (arith, g.free, free_in-given_back p q ys g.sizes.blocks counts);
      free = g.free;
    }

-- the last of some elements was taken from the first of a list
pub record IsPopped {X : Type 0} (xs items front : List X) (x : X) : Type 0 where
  pub within : length front < length xs
  pub read : x ≡ get_or xs (length front) x
  pub stands : front ≡ take (length front) xs
  pub long : length items ≡ length front + 1

pub IsPopped-last : {X : Type 0} (xs items front : List X) (r : Option X) (x : X) → items ≡ take (length items) xs → length items ≤ length xs → items ≡ front ++ option_to_list r → r ≡ Some x → IsPopped xs items front x
IsPopped-last xs items front r x first within left is =
    let n : ℕ = length front in
    let popped : items ≡ front ++ x ∷ [] = left ∙ ap (λ r. front ++ option_to_list r) is in
    let long : length items ≡ n + 1 = ap length popped ∙ length-append front (x ∷ []) in
    let taken : front ++ x ∷ [] ≡ take (n + 1) xs = sym popped ∙ first ∙ ap (λ k. take k xs) long in
    record {
      within = omega (arith, long, within);
      read = sym (sym (get_or-take (n + 1) xs n x (omega arith)) ∙ ap (λ l. get_or l n x) (sym taken) ∙ get_or_push front x x n refl);
      stands = sym (sym (take-take n (n + 1) xs (omega arith)) ∙ ap (take n) (sym taken) ∙ take-append-le n front (x ∷ []) (omega arith) ∙ take_all n front (omega arith));
      long = long;
    }

-- what was given back then is what stands behind it
pub popped-given : (entries items front : List (Entry StoredUpload)) (p q : Blocks) → length items ≡ length front + 1 → GivesBack p (placed_by (drop (length items) entries)) (free_in q - free_in p) q → GivesBack p (placed_by (drop (length front + 1) entries)) (free_in q - free_in p) q
popped-given entries items front p q long gives = subst (λ n. GivesBack p (placed_by (drop n entries)) (free_in q - free_in p) q) long gives

module _ (entries : List (Entry StoredUpload)) (n : ℕ) (e : Entry StoredUpload) (within : n < length entries) (read : e ≡ get_or entries n e) where
  -- the blocks of those from one on are its own and those behind it
  places-from : (b : ℕ) → places_of b (placed_by (drop n entries)) ≡ places_at b e + places_of b (placed_by (drop (n + 1) entries))
  places-from b =
      omega (
        arith,
        places-entries b (drop n entries),
        places-entries b (drop (n + 1) entries),
        sum_by-drop_more (places_at b) entries n e within,
        ap (places_at b) read,
      )

  -- one that stands behind a place is held until it is given back,
  pub IsHeld-last : (p q : Blocks) (place freed : ℕ) → place ≤ n → IsHeld p (placed_by (drop place entries)) → GivesBack p (placed_by (drop (n + 1) entries)) freed q → IsHeld q (placed_in e.kept.pieces)
  IsHeld-last p q place freed from held g = record { each = λ b. omega (arith, places-from b, more b, held.each b, g.counts b) }
    where
      more : (b : ℕ) → places_of b (placed_by (drop n entries)) ≤ places_of b (placed_by (drop place entries))
      more b =
          let same : drop (n - place) (drop place entries) ≡ drop n entries = drop-drop (n - place) place entries ∙ ap (λ k. drop k entries) (omega arith) in
          omega (
            arith,
            places-entries b (drop n entries),
            places-entries b (drop place entries),
            sum_by-take-drop (places_at b) (drop place entries) (n - place),
            ap (sum_by (places_at b)) same,
          )

  -- and then it is
  pub GivesBack-last : (p q r : Blocks) (m k : ℕ) → GivesBack p (placed_by (drop (n + 1) entries)) m q → GivesBack q (placed_in e.kept.pieces) k r → GivesBack p (placed_by (drop n entries)) (free_in r - free_in p) r
  GivesBack-last p q r m k g more =
      let both = GivesBack-parts p q r (placed_by (drop (n + 1) entries)) (placed_in e.kept.pieces) m k g more in
      subst (λ freed. GivesBack p (placed_by (drop n entries)) freed r) (omega (arith, both.free))
      (GivesBack-moved p r _ (placed_by (drop n entries)) (m + k) (λ b. omega (arith, places-from b, places_of-append b (placed_by (drop (n + 1) entries)) (placed_in e.kept.pieces))) both)

-- the stored part without the uploads that have expired
abbrev pub swept_stored_tenant : ℕ → StoredTenant → StoredTenant
swept_stored_tenant now stored_tenant = record stored_tenant { uploads = left (Some now) stored_tenant.uploads }

-- an upload that has not expired
abbrev pub stays : ℕ → Entry StoredUpload → Bool
stays now e = not (has_expired now e.kept.expires)

-- its pieces were there
pub pieces-swept : (now : ℕ) (stored_tenant : StoredTenant) (x : Piece) → Contains (pieces_of (swept_stored_tenant now stored_tenant)) x → Contains (pieces_of stored_tenant) x
pieces-swept now stored_tenant x c =
    let found = Contains-flat_map kept_pieces (left (Some now) stored_tenant.uploads) x c in
    flat_map-contains kept_pieces stored_tenant.uploads found.0 x (Contains-filter (stays now) stored_tenant.uploads found.0 found.1) found.2

-- the pieces of the others leave it
pub Leaves-swept : (now : ℕ) (old : StoredTenant) (ended : List (Entry StoredUpload)) → IsPermutation old.uploads (left (Some now) old.uploads ++ ended) → Leaves old (swept_stored_tenant now old) (flat_map kept_pieces ended)
Leaves-swept now old ended moved = record {
  next = refl;
  stays = pieces-swept now old;
  places = λ b.
      omega (
        arith,
        places-entries b old.uploads,
        places-entries b (left (Some now) old.uploads),
        places-entries b ended,
        sum_by-IsPermutation (places_at b) old.uploads (left (Some now) old.uploads ++ ended) moved,
        sum_by-append (places_at b) (left (Some now) old.uploads) ended,
      );
}

-- what is left is in order
pub AreInOrder-swept : (now : ℕ) (old : StoredTenant) → AreInOrder old → AreInOrder (swept_stored_tenant now old)
AreInOrder-swept now old are = record {
  ids = record {
    ascending = ascending-filter (stays now) old.uploads are.ids.ascending;
    below = All-filter (stays now) (λ e. e.id < old.next) old.uploads are.ids.below;
  };
  origins = All-filter (stays now) HasNoLaterPiece old.uploads are.origins;
}

-- a block of those behind a place is held where all were held, in another order
pub IsHeld-moved : (p : Blocks) (entries moved : List (Entry StoredUpload)) (place : ℕ) → IsPermutation entries moved → IsHeld p (placed_by entries) → IsHeld p (placed_by (drop place moved))
IsHeld-moved p entries moved place same held = record {
  each = λ b.
      omega (
        arith,
        held.each b,
        places-entries b entries,
        places-entries b (drop place moved),
        sum_by-IsPermutation (places_at b) entries moved same,
        sum_by-take-drop (places_at b) moved place,
      );
}

-- where those that have expired were moved behind the others, and ended, these are left
pub EndsExpired-moved : (now : ℕ) (p : Blocks) (before moved : List (Entry StoredUpload)) (place : ℕ) (q : Blocks) (after : List (Entry StoredUpload)) → take place moved ≡ left (Some now) before → IsPermutation before moved → after ≡ take place moved
    → GivesBack p (placed_by (drop place moved)) (free_in q - free_in p) q → EndsExpired now p before q after
EndsExpired-moved now p before moved place q after first same taken gives = record {
  left = taken ∙ first;
  ended = drop place moved;
  others = subst (IsPermutation before) (sym (take-append-drop place moved) ∙ ap (λ front. front ++ drop place moved) (sym taken)) same;
  gives = gives;
}
