-- What the extents of a book are of its pieces: each block is held as often as it stands there, and each reads as its segment.
use Rattle.std.proofs.Common.{◌≡◌, ℕ, ◌+◌, Bool, true, false, cond, eqb, List, [], ◌∷◌, ◌++◌, map, Option, Some, option_map, refl, sym, ap, ap₂, subst, ◌∙◌, arith}
use Rattle.std.specs.List.{sum_by, Contains, flat_map}
use Rattle.std.proofs.lemmas.List.Elements.{All-map, All-weaker}
use Rattle.std.proofs.lemmas.List.Sums.{sum_by-cons}
use Rattle.block_pool.specs.Blocks.{Blocks, places_of}
use Rattle.block_bodies.specs.Bodies.{content_of}
use Rattle.upload_book.specs.declared.pieces.Piece.{Piece}
use Rattle.upload_book.specs.BlockBook.{Extent, Extents, AreCounted, AreExtents, IsExtent, bytes_in, extent_of, upload_extents, tenant_extents, extents_on, holders_on}
use Rattle.upload_book.specs.Stored.{StoredTenant, StoredUpload, entry_of, part_of, pieces_of, placed_in, places_on, some_of, ArePieces, HoldsPieces}
use Rattle.upload_book.specs.TenantBook.{Entry, TenantBook, kept_in}
use Rattle.upload_book.specs.Upload.{Upload}
use Rattle.upload_book.proofs.Charge.InUse.{Contains-mapped}

-- the extents of pieces
abbrev extents : List Piece → List Extent
extents pieces = map {A = Piece} {B = Extent} extent_of pieces

extents-append : (xs ys : List Piece) → extents (xs ++ ys) ≡ extents xs ++ extents ys
extents-append [] ys = refl
extents-append (x ∷ xs) ys = ap (λ rest. extent_of x ∷ rest) (extents-append xs ys)

-- the extents of a tenant are those of its pieces
extents-pieces : (uploads : List (Entry StoredUpload)) → extents_on (map {A = Entry StoredUpload} {B = Entry (List Extent)} upload_extents uploads) ≡ extents (flat_map (λ (e : Entry StoredUpload). e.kept.pieces) uploads)
extents-pieces [] = refl
extents-pieces (e ∷ uploads) =
    ap (λ rest. extents e.kept.pieces ++ rest) (extents-pieces uploads)
    ∙ sym (extents-append e.kept.pieces (flat_map (λ (e : Entry StoredUpload). e.kept.pieces) uploads))

-- and so are their blocks
blocks-extents : (pieces : List Piece) → flat_map (λ (x : Extent). x.blocks) (extents pieces) ≡ placed_in pieces
blocks-extents [] = refl
blocks-extents (x ∷ pieces) = ap (λ rest. x.chain.blocks ++ rest) (blocks-extents pieces)

-- so a tenant holds a block as often as it stands in its pieces
holders-places : (block : ℕ) (t : StoredTenant) → holders_on block (tenant_extents t) ≡ places_on block t
holders-places block t =
    ap (λ list. places_of block (flat_map (λ (x : Extent). x.blocks) list)) (extents-pieces t.uploads) ∙ ap (places_of block) (blocks-extents (pieces_of t))

-- sums over the tenants are the same
sums-same : (f : Extents → ℕ) (g : StoredTenant → ℕ) (tenants : List StoredTenant) → ((t : StoredTenant) → f (tenant_extents t) ≡ g t)
    → sum_by f (map {A = StoredTenant} {B = Extents} tenant_extents tenants) ≡ sum_by g tenants
sums-same f g [] same = refl
sums-same f g (t ∷ tenants) same =
    sum_by-cons f (tenant_extents t) (map {A = StoredTenant} {B = Extents} tenant_extents tenants) ∙ ap₂ (λ n m. n + m) (same t) (sums-same f g tenants same) ∙ sym (sum_by-cons g t tenants)

-- each block is counted by exactly its holders
pub AreCounted-stored : (p : Blocks) (tenants : List StoredTenant) → HoldsPieces p tenants → AreCounted (record { pool = p; tenants = map {A = StoredTenant} {B = Extents} tenant_extents tenants })
AreCounted-stored p tenants stored = record {
  counts = λ block. stored.counts block ∙ sym (sums-same (holders_on block) (places_on block) tenants (holders-places block));
  apart = λ block.
      let same = sums-same (λ uploads. some_of (holders_on block uploads)) (λ t. some_of (places_on block t)) tenants (λ t. ap some_of (holders-places block t)) in
      omega (arith, same, stored.apart block);
}

-- each extent has as many blocks as its bytes take
extents-sound : (size : ℕ) (t : StoredTenant) (x : Extent) → ArePieces size t.next (pieces_of t) → Contains (extents_on (tenant_extents t)) x → IsExtent size x
extents-sound size t x are c =
    let found = Contains-mapped extent_of (pieces_of t) x (subst (λ list. Contains list x) (extents-pieces t.uploads) c) in
    let piece = are.each found.0 found.1 in
    subst (IsExtent size) found.2 (record { blocks = piece.blocks; once = piece.once })

pub AreExtents-stored : (p : Blocks) (tenants : List StoredTenant) → HoldsPieces p tenants → AreExtents (record { pool = p; tenants = map {A = StoredTenant} {B = Extents} tenant_extents tenants })
AreExtents-stored p tenants stored =
    All-map (λ uploads. (x : Extent) → Contains (extents_on uploads) x → IsExtent p.block_size x) tenant_extents tenants
    (All-weaker (λ (t : StoredTenant). ArePieces p.block_size t.next (pieces_of t)) (λ (t : StoredTenant). (x : Extent) → Contains (extents_on (tenant_extents t)) x → IsExtent p.block_size x) (λ t are x c. extents-sound p.block_size t x are c) tenants stored.pieces)

-- each extent reads as its segment,
abbrev pub read_upload : Blocks → Entry (List Extent) → Entry (List (List ℕ))
read_upload p e = record { id = e.id; kept = map (bytes_in p) e.kept }

abbrev pub segments_in : Entry Upload → Entry (List (List ℕ))
segments_in e = record { id = e.id; kept = e.kept.segments }

read-pieces : (p : Blocks) (pieces : List Piece) → map (bytes_in p) (extents pieces) ≡ map {A = Piece} {B = List ℕ} (λ x. content_of p x.chain) pieces
read-pieces p [] = refl
read-pieces p (x ∷ pieces) = ap (λ rest. bytes_in p (extent_of x) ∷ rest) (read-pieces p pieces)

-- of an upload,
read-uploads : (p : Blocks) (uploads : List (Entry StoredUpload))
    → map {A = Entry (List Extent)} {B = Entry (List (List ℕ))} (read_upload p) (map {A = Entry StoredUpload} {B = Entry (List Extent)} upload_extents uploads)
    ≡ map {A = Entry Upload} {B = Entry (List (List ℕ))} segments_in (map {A = Entry StoredUpload} {B = Entry Upload} (entry_of p) uploads)
read-uploads p [] = refl
read-uploads p (e ∷ uploads) =
    let under : List (List ℕ) → Entry (List (List ℕ)) = λ kept. record { id = e.id; kept = kept } in
    ap₂ (λ first rest. first ∷ rest) (ap under (read-pieces p e.kept.pieces)) (read-uploads p uploads)

-- of all tenants
pub read-tenants : (p : Blocks) (tenants : List StoredTenant)
    → map {A = Extents} {B = List (Entry (List (List ℕ)))} (λ uploads. map {A = Entry (List Extent)} {B = Entry (List (List ℕ))} (read_upload p) uploads) (map {A = StoredTenant} {B = Extents} tenant_extents tenants)
    ≡ map {A = TenantBook} {B = List (Entry (List (List ℕ)))} (λ part. map {A = Entry Upload} {B = Entry (List (List ℕ))} segments_in part.uploads) (map {A = StoredTenant} {B = TenantBook} (part_of p) tenants)
read-tenants p [] = refl
read-tenants p (t ∷ tenants) = ap₂ (λ first rest. first ∷ rest) (read-uploads p t.uploads) (read-tenants p tenants)

-- the extents under an id are those of the upload
extents-first : (same : Bool) (u : StoredUpload) (rest : Option (List Extent)) (kept : Option StoredUpload) → rest ≡ option_map (λ (u : StoredUpload). extents u.pieces) kept
    → cond same (Some (extents u.pieces)) rest ≡ option_map (λ (u : StoredUpload). extents u.pieces) (cond same (Some u) kept)
extents-first true u rest kept is = refl
extents-first false u rest kept is = is

pub kept_in-extents : (entries : List (Entry StoredUpload)) (id : ℕ)
    → kept_in (map {A = Entry StoredUpload} {B = Entry (List Extent)} upload_extents entries) id ≡ option_map (λ (u : StoredUpload). map {A = Piece} {B = Extent} extent_of u.pieces) (kept_in entries id)
kept_in-extents [] id = refl
kept_in-extents (e ∷ entries) id = extents-first (eqb e.id id) e.kept _ (kept_in entries id) (kept_in-extents entries id)
