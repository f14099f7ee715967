-- The pieces of a tenant, entry by entry.
use Rattle.std.proofs.Common.{◌≢◌, ◌≡◌, ◌⊎◌, ℕ, suc, ◌+◌, ◌<◌, ◌≤◌, List, [], ◌∷◌, ◌++◌, length, get_or, set, take, drop, refl, inl, inr, ap, sym, subst, ◌∙◌, arith, take-append-drop}
use Rattle.std.specs.List.{sum_by, All, Contains, flat_map, remove}
use Rattle.std.proofs.lemmas.Bool.{cases_lt}
use Rattle.std.proofs.lemmas.List.{set_split}
use Rattle.std.proofs.lemmas.List.Edits.{get_or-remove_below, get_or-remove_above, length-remove}
use Rattle.std.proofs.lemmas.List.Concat.{flat_map-append}
use Rattle.std.proofs.lemmas.List.Elements.{All-contains_itself, All-weaker, Contains-append_cases, Contains-append_left, Contains-append_right}
use Rattle.std.proofs.lemmas.List.Sums.{sum_by-set, sum_by-remove, sum_by-cons}
use Rattle.block_pool.specs.Blocks.{places_of}
use Rattle.block_pool.proofs.BlocksLaws.{places_of-append}
use Rattle.block_bodies.specs.Bodies.{blocks_for}
use Rattle.upload_book.specs.declared.pieces.Piece.{Piece}
use Rattle.upload_book.specs.Stored.{StoredTenant, StoredUpload, pieces_of, placed_in, places_on, Agree, IsPiece, ArePieces, Segment, segment_of}
use Rattle.upload_book.specs.TenantBook.{Entry}
use Rattle.upload_book.proofs.Charge.InUse.{Contains-first, Contains-later, Contains-cases, Contains-none}

-- what stands in lists that are joined stands in one of them
pub Contains-flat_map : {X A : Type 0} (f : X → List A) (xs : List X) (y : A) → Contains (flat_map f xs) y → (x : X) × Contains xs x × Contains (f x) y
Contains-flat_map f [] y c = absurd (Contains-none y c)
Contains-flat_map f (x ∷ xs) y c = elim (Contains-append_cases (f x) (flat_map f xs) y c) [
  | inl here ↦ (x, Contains-first x xs, here)
  | inr rest ↦
      let found = Contains-flat_map f xs y rest in
      (found.0, Contains-later x found.0 xs found.1, found.2)
]

-- and what stands in one stands in all of them
pub flat_map-contains : {X A : Type 0} (f : X → List A) (xs : List X) (x : X) (y : A) → Contains xs x → Contains (f x) y → Contains (flat_map f xs) y
flat_map-contains f [] x y c d = absurd (Contains-none x c)
flat_map-contains f (z ∷ xs) x y c d = elim (Contains-cases z x xs c) [
  | inl same ↦ Contains-append_left (f z) (flat_map f xs) y (subst (λ w. Contains (f w) y) (sym same) d)
  | inr later ↦ Contains-append_right (f z) (flat_map f xs) y (flat_map-contains f xs x y later d)
]

-- what is left where one element is taken out was there
pub Contains-remove : {X : Type 0} (xs : List X) (i : ℕ) (x : X) → Contains (remove xs i) x → Contains xs x
Contains-remove xs i x c = elim (Contains-append_cases (take i xs) (drop (suc i) xs) x c) [
  | inl front ↦ subst (λ ys. Contains ys x) (take-append-drop i xs) (Contains-append_left (take i xs) (drop i xs) x front)
  | inr back ↦ subst (λ ys. Contains ys x) (take-append-drop (suc i) xs) (Contains-append_right (take (suc i) xs) (drop (suc i) xs) x back)
]

-- and at another place
pub Contains-remove_at : {X : Type 0} (xs : List X) (i : ℕ) (x : X) → i < length xs → Contains (remove xs i) x → (k : ℕ) × (k < length xs) × (k ≢ i) × (get_or xs k x ≡ x)
Contains-remove_at xs i x l c =
    let long : length (remove xs i) + 1 ≡ length xs = length-remove xs i l in
    elim (cases_lt c.0 i) [
      | inl below ↦ (c.0, omega (arith, c.1), omega arith, sym (get_or-remove_below xs i x c.0 below l) ∙ c.2)
      | inr above ↦ (c.0 + 1, omega (arith, c.1), omega arith, sym (get_or-remove_above xs i x c.0 above l) ∙ c.2)
    ]

-- what holds of all holds of those that are left
pub All-remove : {X : Type 0} (P : X → Type 0) (xs : List X) (i : ℕ) → All P xs → All P (remove xs i)
All-remove {X} P xs i all =
    All-weaker (Contains (remove xs i)) P (λ (x : X) c. let there = Contains-remove xs i x c in subst P there.2 (all there.0 x there.1)) (remove xs i) (All-contains_itself (remove xs i))

-- where one element is set, there is that one, and what is left without the place
pub Contains-set : {X : Type 0} (xs : List X) (i : ℕ) (y x : X) → i < length xs → Contains (set xs i y) x → (y ≡ x) ⊎ Contains (remove xs i) x
Contains-set xs i y x l c = elim (Contains-append_cases (take i xs) (y ∷ drop (suc i) xs) x (subst (λ ys. Contains ys x) (set_split xs i y l) c)) [
  | inl front ↦ inr (Contains-append_left (take i xs) (drop (suc i) xs) x front)
  | inr rest ↦ elim (Contains-cases y x (drop (suc i) xs) rest) [
    | inl same ↦ inl same
    | inr back ↦ inr (Contains-append_right (take i xs) (drop (suc i) xs) x back)
  ]
]

-- the pieces of an entry
abbrev pub kept_pieces : Entry StoredUpload → List Piece
kept_pieces e = e.kept.pieces

-- at how many places of an entry a block stands
abbrev pub places_at : ℕ → Entry StoredUpload → ℕ
places_at b e = places_of b (placed_in e.kept.pieces)

-- a block stands in joined lists of pieces as often as in each
pub places-joined : (b : ℕ) (xs ys : List Piece) → places_of b (placed_in (xs ++ ys)) ≡ places_of b (placed_in xs) + places_of b (placed_in ys)
places-joined b xs ys =
    ap (places_of b) (flat_map-append (λ (x : Piece). x.chain.blocks) xs ys) ∙ places_of-append b (placed_in xs) (placed_in ys)

-- a block stands with a tenant as often as with each of its entries
pub places-entries : (b : ℕ) (entries : List (Entry StoredUpload)) → places_of b (placed_in (flat_map kept_pieces entries)) ≡ sum_by (places_at b) entries
places-entries b [] = refl
places-entries b (e ∷ entries) =
    places-joined b e.kept.pieces (flat_map kept_pieces entries) ∙ ap (λ n. places_at b e + n) (places-entries b entries) ∙ sym (sum_by-cons (places_at b) e entries)

-- a tenant's entry is read where there is one
pub record IsEntry (old : StoredTenant) (i : ℕ) (e : Entry StoredUpload) : Type 0 where
  pub within : i < length old.uploads
  pub read : e ≡ get_or old.uploads i e

-- the stored part without the entry at a place
abbrev pub without : StoredTenant → ℕ → StoredTenant
without old i = record old { uploads = remove old.uploads i }

-- the stored part with another entry at a place
abbrev pub with_entry : StoredTenant → ℕ → Entry StoredUpload → StoredTenant
with_entry old i e = record old { uploads = set old.uploads i e }

-- the pieces of an entry are a tenant's
pub Contains-entry : (old : StoredTenant) (i : ℕ) (e : Entry StoredUpload) (x : Piece) → IsEntry old i e → Contains e.kept.pieces x → Contains (pieces_of old) x
Contains-entry old i e x is c = flat_map-contains kept_pieces old.uploads e x (i, is.within, sym is.read) c

-- a block stands on the stored part as often as at an entry and without it
pub places-without : (b : ℕ) (old : StoredTenant) (i : ℕ) (e : Entry StoredUpload) → IsEntry old i e → places_on b (without old i) + places_at b e ≡ places_on b old
places-without b old i e is =
    omega (
      arith,
      places-entries b old.uploads,
      places-entries b (remove old.uploads i),
      sum_by-remove (places_at b) old.uploads i e is.within,
      ap (places_at b) is.read,
    )

-- so too with another entry
pub places-with_entry : (b : ℕ) (old : StoredTenant) (i : ℕ) (e new : Entry StoredUpload) → IsEntry old i e → places_on b (with_entry old i new) + places_at b e ≡ places_on b old + places_at b new
places-with_entry b old i e new is =
    omega (
      arith,
      places-entries b old.uploads,
      places-entries b (set old.uploads i new),
      sum_by-set (places_at b) old.uploads i new e is.within,
      ap (places_at b) is.read,
    )

-- a piece that is left without an entry was a tenant's
pub Contains-without : (old : StoredTenant) (i : ℕ) (x : Piece) → Contains (pieces_of (without old i)) x → Contains (pieces_of old) x
Contains-without old i x c =
    let found = Contains-flat_map kept_pieces (remove old.uploads i) x c in
    flat_map-contains kept_pieces old.uploads found.0 x (Contains-remove old.uploads i found.0 found.1) found.2

-- What stays of a stored part where pieces leave it: no other piece is left, and each block stands in what is left and in these
-- as often as before.
pub record Leaves (old s : StoredTenant) (gone : List Piece) : Type 0 where
  pub next : s.next ≡ old.next
  pub stays : (x : Piece) → Contains (pieces_of s) x → Contains (pieces_of old) x
  pub places : (b : ℕ) → places_on b s + places_of b (placed_in gone) ≡ places_on b old

-- without an entry its pieces leave
pub Leaves-without : (old : StoredTenant) (i : ℕ) (e : Entry StoredUpload) → IsEntry old i e → Leaves old (without old i) e.kept.pieces
Leaves-without old i e is = record { next = refl; stays = Contains-without old i; places = λ b. places-without b old i e is }

-- a piece of the stored part with another entry is that entry's, or was left without the place
pub Contains-with_entry : (old : StoredTenant) (i : ℕ) (new : Entry StoredUpload) (x : Piece) → i < length old.uploads → Contains (pieces_of (with_entry old i new)) x → Contains new.kept.pieces x ⊎ Contains (pieces_of (without old i)) x
Contains-with_entry old i new x l c =
    let found = Contains-flat_map kept_pieces (set old.uploads i new) x c in
    elim (Contains-set old.uploads i new found.0 l found.1) [
      | inl same ↦ inl (subst (λ (e : Entry StoredUpload). Contains e.kept.pieces x) (sym same) found.2)
      | inr rest ↦ inr (flat_map-contains kept_pieces (remove old.uploads i) found.0 x rest found.2)
    ]

-- a piece has the segment of one of some pieces
abbrev pub IsCopyIn : List Piece → Piece → Type 0
IsCopyIn pieces x = (z : Piece) × Contains pieces z × (segment_of x ≡ segment_of z)

-- two copies agree as what they copy does
Agree-copies : (x y w z : Piece) → segment_of x ≡ segment_of w → segment_of y ≡ segment_of z → Agree w z → Agree x y
Agree-copies x y w z e f a =
    let origin : x.origin ≡ w.origin = ap (λ (s : Segment). s.origin) e in
    let origin' : y.origin ≡ z.origin = ap (λ (s : Segment). s.origin) f in
    let blocks : x.chain.blocks ≡ w.chain.blocks = ap (λ (s : Segment). s.blocks) e in
    let blocks' : y.chain.blocks ≡ z.chain.blocks = ap (λ (s : Segment). s.blocks) f in
    let len : x.chain.len ≡ w.chain.len = ap (λ (s : Segment). s.len) e in
    let len' : y.chain.len ≡ z.chain.len = ap (λ (s : Segment). s.len) f in
    record {
      blocks = λ same. blocks ∙ a.blocks (sym origin ∙ same ∙ origin') ∙ sym blocks';
      len = λ same. len ∙ a.len (sym origin ∙ same ∙ origin') ∙ sym len';
      apart = λ b some some'.
          origin ∙ a.apart b (subst (λ list. 0 < places_of b list) blocks some) (subst (λ list. 0 < places_of b list) blocks' some') ∙ sym origin';
    }

-- a copy is a piece as what it copies is
IsPiece-copy : (size next next' : ℕ) (x z : Piece) → next ≤ next' → segment_of x ≡ segment_of z → IsPiece size next z → IsPiece size next' x
IsPiece-copy size next next' x z more e is =
    let origin : x.origin ≡ z.origin = ap (λ (s : Segment). s.origin) e in
    let blocks : x.chain.blocks ≡ z.chain.blocks = ap (λ (s : Segment). s.blocks) e in
    let len : x.chain.len ≡ z.chain.len = ap (λ (s : Segment). s.len) e in
    record {
      given = omega (arith, is.given);
      blocks = ap (λ (list : List ℕ). length list) blocks ∙ is.blocks ∙ ap (blocks_for size) (sym len);
      once = record { once = λ b. omega (arith, is.once.once b, ap (places_of b) blocks) };
    }

-- pieces are as they should be where each copies one that was there
pub ArePieces-copies : (size next next' : ℕ) (xs ys : List Piece) → ArePieces size next xs → next ≤ next' → ((y : Piece) → Contains ys y → IsCopyIn xs y) → ArePieces size next' ys
ArePieces-copies size next next' xs ys are more copies = record {
  each = λ y c. let z = copies y c in IsPiece-copy size next next' y z.0 more z.2 (are.each z.0 z.1);
  agree = λ x y c d.
      let w = copies x c in
      let z = copies y d in
      Agree-copies x y w.0 z.0 w.2 z.2 (are.agree w.0 z.0 w.1 z.1);
}

-- pieces of which none stands twice hold a block at most as often as there are pieces
pub places-few : (b : ℕ) (xs : List Piece) → ((x : Piece) → Contains xs x → places_of b x.chain.blocks ≤ 1) → places_of b (placed_in xs) ≤ length xs
places-few b [] once = omega arith
places-few b (x ∷ xs) once =
    omega (arith, once x (Contains-first x xs), places-few b xs (λ y c. once y (Contains-later x y xs c)), places_of-append b x.chain.blocks (placed_in xs))
