-- What other pieces of the origin of a piece cost, by how often its first block is held.
use Rattle.std.proofs.Common.{◌≡◌, ◌≢◌, ℕ, ◌+◌, ◌<◌, ◌≤◌, Bool, true, false, cond, List, [], ◌∷◌, ◌++◌, drop, get_or, length, take, slice_get, Option, Some, refl, inl, inr, ap, sym, subst, ◌∙◌, arith}
use Rattle.std.specs.List.{Contains, filter, flat_map, remove}
use Rattle.std.specs.Option.{option_and_then}
use Rattle.std.proofs.lemmas.Bool.{cases_lt}
use Rattle.std.proofs.lemmas.Bool.Decides.{eqb_tells}
use Rattle.std.proofs.lemmas.List.{drop_more, get_or_default, take-append-drop}
use Rattle.std.proofs.lemmas.List.Elements.{Contains-append_cases, Contains-append_left, Contains-append_right}
use Rattle.std.proofs.lemmas.Option.{slice_get-get_or}
use Rattle.block_pool.specs.Blocks.{Blocks, count_at, places_of}
use Rattle.block_pool.proofs.BlocksLaws.{places_of-append}
use Rattle.block_bodies.specs.Bodies.{blocks_for}
use Rattle.upload_book.specs.Charge.{price}
use Rattle.upload_book.specs.declared.head_row.Kind.{Kind}
use Rattle.upload_book.specs.declared.head_row.Kind.TheVariants.{Plain, Partial, Final}
use Rattle.upload_book.specs.declared.pieces.Piece.{Piece}
use Rattle.upload_book.specs.inside.ChargeAfter.{is_left, is_left_if_final, left, left_beside, price_elsewhere, sources_in, sources_kept, AreCounted, AreFinalsLeft}
use Rattle.upload_book.specs.inside.Pieces.{HasOwnPiece, own_chain}
use Rattle.upload_book.specs.Stored.{Agree, StoredTenant, StoredUpload, block_at, pieces_of, placed_in, places_on}
use Rattle.upload_book.specs.TenantBook.{Entry}
use Rattle.upload_book.proofs.Charge.ChargeAfterLemmas.{left_beside-none, left-none}
use Rattle.upload_book.proofs.Charge.InUse.{Contains-cases, Contains-first, Contains-later, Contains-none, places-found, places-within, price-enough}
use Rattle.upload_book.proofs.Lawful.Entries.{Contains-filter, ids_differ}
use Rattle.upload_book.proofs.Store.HoldersLemmas.{block-listed}
use Rattle.upload_book.proofs.Store.PutLemmas.{own_piece}
use Rattle.upload_book.proofs.Store.Pieces.{IsEntry, Contains-entry, Contains-flat_map, Contains-remove_at, Contains-without, flat_map-contains, kept_pieces, places-joined, places-without, without}

-- a block is counted as often as it stands, at least
pub counted-least : (p : Blocks) (t : StoredTenant) → AreCounted p t → (b : ℕ) → places_on b t ≤ count_at p b
counted-least p t are b = elim (cases_lt 0 (places_on b t)) [
  | inl some ↦ omega (arith, are.counts b some)
  | inr none ↦ omega arith
]

-- pieces in which a block of a piece does not stand have another origin, and so cost nothing of it
none-priced : (p : Blocks) (t : StoredTenant) (ys : List Piece) (x : Piece) (size origin b : ℕ) → AreCounted p t → Contains (pieces_of t) x → x.origin ≡ origin → 0 < places_of b x.chain.blocks
    → ((y : Piece) → Contains ys y → Contains (pieces_of t) y × (places_of b y.chain.blocks ≡ 0)) → price size (sources_in ys) origin ≡ 0
none-priced p t [] x size origin b are there is stands each = refl
none-priced p t (y ∷ ys) x size origin b are there is stands each =
    let rest = none-priced p t ys x size origin b are there is stands (λ z c. each z (Contains-later y z ys c)) in
    elim (eqb_tells y.origin origin) [
      | inl same ↦
          let own = each y (Contains-first y ys) in
          let blocks : y.chain.blocks ≡ x.chain.blocks = (are.agree y x own.0 there).blocks (same.1 ∙ sym is) in
          absurd (omega (arith, own.1, stands, ap (places_of b) blocks))
      | inr differs ↦ rw differs.0 rest
    ]

-- what is left beside an upload was there beside it
Contains-beside : (swept : Option ℕ) (old : StoredTenant) (i : ℕ) (y : Piece) → Contains (flat_map kept_pieces (left_beside swept old.uploads i)) y → Contains (pieces_of (without old i)) y
Contains-beside swept old i y c =
    let found = Contains-flat_map kept_pieces (left_beside swept old.uploads i) y c in
    let front = left swept (take i old.uploads) in
    let back = drop (i + 1) old.uploads in
    let P : List (Entry StoredUpload) → Type 0 = λ entries. Contains entries found.0 in
    let there : Contains (take i old.uploads ++ back) found.0 = elim (Contains-append_cases front back found.0 found.1) [
      | inl before ↦ Contains-append_left (take i old.uploads) back found.0 (Contains-filter (λ (e : Entry StoredUpload). is_left swept e.kept.expires) (take i old.uploads) found.0 before)
      | inr after ↦ Contains-append_right (take i old.uploads) back found.0 after
    ] in
    let none : take i old.uploads ++ back ≡ (without old i).uploads = ap (λ (front : List (Entry StoredUpload)). front ++ back) (sym (left-none (take i old.uploads))) ∙ left_beside-none old.uploads i in
    flat_map-contains kept_pieces (without old i).uploads found.0 y (subst P none there) found.2

-- where the first block of a piece is held once, no other piece costs anything of its origin
pub alone-elsewhere : (p : Blocks) (old : StoredTenant) (i piece size b : ℕ) (swept : Option ℕ) (e : Entry StoredUpload) (x : Piece) → AreCounted p old → IsEntry old i e
    → piece < length e.kept.pieces → x ≡ get_or e.kept.pieces piece x → 0 < places_of b x.chain.blocks → count_at p b ≡ 1
    → price_elsewhere size e.kept.pieces piece (sources_kept (left_beside swept old.uploads i)) x.origin ≡ 0
alone-elsewhere p old i piece size b swept e x are entry within read stands once =
    let pieces : List Piece = e.kept.pieces in
    let inside : Contains pieces x = (piece, within, sym read) in
    let there : Contains (pieces_of old) x = Contains-entry old i e x entry inside in
    let later : List Piece = drop (piece + 1) pieces in
    let here : drop piece pieces ≡ x ∷ later = drop_more pieces piece x within ∙ ap (λ (y : Piece). y ∷ later) (sym read) in
    let split : take piece pieces ++ x ∷ later ≡ pieces = ap (λ (back : List Piece). take piece pieces ++ back) (sym here) ∙ take-append-drop piece pieces in
    let own : places_of b (placed_in pieces) ≡ places_of b (placed_in (take piece pieces)) + (places_of b x.chain.blocks + places_of b (placed_in later)) =
    ap (λ (xs : List Piece). places_of b (placed_in xs)) (sym split) ∙ places-joined b (take piece pieces) (x ∷ later) ∙ ap (λ n. places_of b (placed_in (take piece pieces)) + n) (places_of-append b x.chain.blocks (placed_in later)) in
    let all : places_on b (without old i) + places_of b (placed_in pieces) ≡ places_on b old = places-without b old i e entry in
    let few = counted-least p old are b in
    let none_later : places_of b (placed_in later) ≡ 0 = omega (arith, own, all, few, once, stands) in
    let none_beside : places_on b (without old i) ≡ 0 = omega (arith, own, all, few, once, stands) in
    let behind : price size (sources_in later) x.origin ≡ 0 = none-priced p old later x size x.origin b are there refl stands
    (λ y c. (Contains-entry old i e y entry (subst (λ (xs : List Piece). Contains xs y) split (Contains-append_right (take piece pieces) (x ∷ later) y (Contains-later x y later c))), omega (arith, none_later, places-within b later y c))) in
    let beside : price size (sources_kept (left_beside swept old.uploads i)) x.origin ≡ 0 = none-priced p old (flat_map kept_pieces (left_beside swept old.uploads i)) x size x.origin b are there refl stands
    (λ y c. let was = Contains-beside swept old i y c in (Contains-without old i y was, omega (arith, none_beside, places-within b (pieces_of (without old i)) y was))) in
    rw (behind, beside) refl

-- a block at the first place of a piece stands in it
pub first-stands : (u : StoredUpload) (piece b : ℕ) (x : Piece) → block_at u piece 0 ≡ Some b → piece < length u.pieces → x ≡ get_or u.pieces piece x → 0 < places_of b x.chain.blocks
first-stands u piece b x is within read =
    let listed : slice_get (get_or u.pieces piece x).chain.blocks 0 ≡ Some b = ap (option_and_then (λ (y : Piece). slice_get y.chain.blocks 0)) (sym (slice_get-get_or u.pieces piece x within)) ∙ is in
    subst (λ (y : Piece). 0 < places_of b y.chain.blocks) (sym read) (block-listed (get_or u.pieces piece x).chain.blocks 0 b listed)

-- where pieces of an origin take no more than this, it costs no more
price-most : (size origin most : ℕ) (ys : List Piece) → ((y : Piece) → Contains ys y → y.origin ≡ origin → blocks_for size y.chain.len ≤ most) → price size (sources_in ys) origin ≤ most
price-most size origin most [] each = omega arith
price-most size origin most (y ∷ ys) each =
    let rest = price-most size origin most ys (λ z c. each z (Contains-later y z ys c)) in
    elim (eqb_tells y.origin origin) [
      | inl same ↦ rw same.0 (omega (arith, rest, each y (Contains-first y ys) same.1))
      | inr differs ↦ rw differs.0 rest
    ]

-- what passes is in a filtered list
Contains-passes : {X : Type 0} (p : X → Bool) (xs : List X) (x : X) → Contains xs x → p x ≡ true → Contains (filter p xs) x
Contains-passes p [] x c passes = absurd (Contains-none x c)
Contains-passes p (y ∷ xs) x c passes = elim (Contains-cases y x xs c) [
  | inl same ↦ rw (ap p same ∙ passes) (subst (λ z. Contains (y ∷ filter p xs) z) same (Contains-first y (filter p xs)))
  | inr later ↦ by_test (p y) (Contains-passes p xs x later passes)
]
  where
    by_test : (test : Bool) → Contains (filter p xs) x → Contains (cond test (y ∷ filter p xs) (filter p xs)) x
    by_test true c = Contains-later y x (filter p xs) c
    by_test false c = c

-- an upload beside another that is left
Contains-left : (swept : Option ℕ) (entries : List (Entry StoredUpload)) (i : ℕ) (f : Entry StoredUpload) → Contains (remove entries i) f → is_left swept f.kept.expires ≡ true → Contains (left_beside swept entries i) f
Contains-left swept entries i f there stays =
    let P : List (Entry StoredUpload) → Type 0 = λ entries. Contains entries f in
    let front = left swept (take i entries) in
    let none : take i entries ++ drop (i + 1) entries ≡ remove entries i = ap (λ (front : List (Entry StoredUpload)). front ++ drop (i + 1) entries) (sym (left-none (take i entries))) ∙ left_beside-none entries i in
    elim (Contains-append_cases (take i entries) (drop (i + 1) entries) f (subst P (sym none) there)) [
      | inl before ↦ Contains-append_left front (drop (i + 1) entries) f (Contains-passes (λ (e : Entry StoredUpload). is_left swept e.kept.expires) (take i entries) f before stays)
      | inr after ↦ Contains-append_right front (drop (i + 1) entries) f after
    ]

-- what has a piece of another upload is a final one
final-beside : (p : Blocks) (old : StoredTenant) (i : ℕ) (e f : Entry StoredUpload) (y : Piece) → AreCounted p old → IsEntry old i e → Contains (remove old.uploads i) f → Contains f.kept.pieces y → y.origin ≡ e.id → (f.kept.kind ≢ Final) → ⊥
final-beside p old i e f y are entry there c same own =
    let at = Contains-remove_at old.uploads i f entry.within there in
    let pieces : f.kept.pieces ≡ own_piece f.id (own_chain f.kept.pieces) ∷ [] = subst HasOwnPiece at.3 (are.own at.0 f at.1) own in
    let first : y.origin ≡ f.id = elim (Contains-cases (own_piece f.id (own_chain f.kept.pieces)) y [] (subst (λ (xs : List Piece). Contains xs y) pieces c)) [
      | inl is ↦ ap (λ (x : Piece). x.origin) (sym is)
      | inr nothing ↦ absurd (Contains-none y nothing)
    ] in
    ids_differ old.uploads at.0 i f are.ids.ascending at.1 entry.within at.2
    (ap (λ (e : Entry StoredUpload). e.id) at.3 ∙ sym first ∙ same ∙ ap (λ (e : Entry StoredUpload). e.id) (entry.read ∙ get_or_default old.uploads i e f entry.within))

-- it is left where all final ones are
left-beside : (swept : Option ℕ) (kind : Kind) (expires : Option ℕ) → is_left_if_final swept kind expires ≡ true → (kind ≢ Final → ⊥) → is_left swept expires ≡ true
left-beside swept Plain expires stays final = absurd (final (λ e. absurd cc))
left-beside swept Partial expires stays final = absurd (final (λ e. absurd cc))
left-beside swept Final expires stays final = stays

-- Where a block of an upload's own piece is held more than once, a final upload has the piece too. So where all final ones are
-- left, the origin costs what the piece takes.
pub shared-elsewhere : (p : Blocks) (old : StoredTenant) (i size b : ℕ) (swept : Option ℕ) (e : Entry StoredUpload) (x : Piece) → AreCounted p old → IsEntry old i e → AreFinalsLeft swept old.uploads → e.kept.kind ≢ Final
    → e.kept.pieces ≡ x ∷ [] → x.origin ≡ e.id → 0 < places_of b x.chain.blocks → 1 < count_at p b → price_elsewhere size e.kept.pieces 0 (sources_kept (left_beside swept old.uploads i)) x.origin ≡ blocks_for size x.chain.len
shared-elsewhere p old i size b swept e x are entry finals own pieces origin stands shared =
    let here : Contains (pieces_of old) x = Contains-entry old i e x entry (subst (λ (xs : List Piece). Contains xs x) (sym pieces) (Contains-first x [])) in
    let one : places_of b (placed_in e.kept.pieces) ≡ places_of b x.chain.blocks + 0 = ap (λ (xs : List Piece). places_of b (placed_in xs)) pieces ∙ places_of-append b x.chain.blocks [] in
    let on : 0 < places_on b old = omega (arith, stands, one, places-without b old i e entry) in
    let others : 0 < places_on b (without old i) = omega (arith, shared, one, places-without b old i e entry, are.counts b on, (are.once x here).once b) in
    let found = places-found b (pieces_of (without old i)) others in
    let y : Piece = found.0 in
    let was : Contains (pieces_of old) y = Contains-without old i y found.1 in
    let agree : Agree y x = are.agree y x was here in
    let same : y.origin ≡ x.origin = agree.apart b found.2 stands in
    let holder = Contains-flat_map kept_pieces (remove old.uploads i) y found.1 in
    let f : Entry StoredUpload = holder.0 in
    let at = Contains-remove_at old.uploads i f entry.within holder.1 in
    let stays : is_left swept f.kept.expires ≡ true = left-beside swept f.kept.kind f.kept.expires (subst (λ (e : Entry StoredUpload). is_left_if_final swept e.kept.kind e.kept.expires ≡ true) at.3 (finals at.0 f at.1))
    (final-beside p old i e f y are entry holder.1 holder.2 (same ∙ origin)) in
    let left_pieces : List Piece = flat_map kept_pieces (left_beside swept old.uploads i) in
    let listed : Contains left_pieces y = flat_map-contains kept_pieces (left_beside swept old.uploads i) f y (Contains-left swept old.uploads i f holder.1 stays) holder.2 in
    let enough : blocks_for size y.chain.len ≤ price size (sources_in left_pieces) x.origin = price-enough size x.origin left_pieces y listed same in
    let len : blocks_for size y.chain.len ≡ blocks_for size x.chain.len = ap (blocks_for size) (agree.len same) in
    let most : price size (sources_in left_pieces) x.origin ≤ blocks_for size x.chain.len = price-most size x.origin (blocks_for size x.chain.len) left_pieces
    (λ z c is. let same = ap (blocks_for size) ((are.agree z x (Contains-without old i z (Contains-beside swept old i z c)) here).len is) in omega (arith, same)) in
    let none : sources_in (drop 1 e.kept.pieces) ≡ [] = ap (λ (xs : List Piece). sources_in (drop 1 xs)) pieces in
    rw none (omega (arith, enough, len, most))

-- the same of the piece at a place of an upload, by its first block
pub shared-piece : (p : Blocks) (old : StoredTenant) (i piece size b : ℕ) (swept : Option ℕ) (e : Entry StoredUpload) → AreCounted p old → IsEntry old i e → AreFinalsLeft swept old.uploads → e.kept.kind ≢ Final
    → piece < length e.kept.pieces → block_at e.kept piece 0 ≡ Some b → count_at p b ≢ 1
    → (y : Piece) → blocks_for size (get_or e.kept.pieces piece y).chain.len ≡ price_elsewhere size e.kept.pieces piece (sources_kept (left_beside swept old.uploads i)) (get_or e.kept.pieces piece y).origin
shared-piece p old i piece size b swept e are entry finals kind within listed shared y =
    let x : Piece = own_piece e.id (own_chain e.kept.pieces) in
    let pieces : e.kept.pieces ≡ x ∷ [] = subst HasOwnPiece (sym entry.read) (are.own i e entry.within) kind in
    let zero : piece ≡ 0 = omega (arith, within, ap length pieces) in
    let first : (d : Piece) → get_or e.kept.pieces piece d ≡ x = λ d. ap (λ k. get_or e.kept.pieces k d) zero ∙ ap (λ (xs : List Piece). get_or xs 0 d) pieces in
    let stands : 0 < places_of b x.chain.blocks = first-stands e.kept piece b x listed within (sym (first x)) in
    let inside : Contains (pieces_of old) x = Contains-entry old i e x entry (piece, within, first x) in
    let many : 1 < count_at p b = more (count_at p b) (omega (arith, stands, places-within b (pieces_of old) x inside, counted-least p old are b)) shared in
    let is = shared-elsewhere p old i size b swept e x are entry finals kind pieces refl stands many in
    let others = sources_kept (left_beside swept old.uploads i) in
    subst (λ (z : Piece). blocks_for size z.chain.len ≡ price_elsewhere size e.kept.pieces piece others z.origin) (sym (first y))
    (subst (λ k. blocks_for size x.chain.len ≡ price_elsewhere size e.kept.pieces k others x.origin) (sym zero) (sym is))
  where
    more : (n : ℕ) → 0 < n → n ≢ 1 → 1 < n
    more n some other = omega arith
