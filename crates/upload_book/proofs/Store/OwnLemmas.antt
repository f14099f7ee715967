-- Uploads as they are kept: which have a piece of their own, and their bytes and parts as the plain book has them.
use Rattle.std.proofs.Common.{◌≡◌, ◌≢◌, ℕ, ◌+◌, ◌-◌, ◌≤◌, drop, min, take, rules, append_assoc, List, [], ◌∷◌, ◌++◌, map, length, refl, ap, sym, ◌∙◌, subst, arith, length-append, length-drop, length-take}
use Rattle.std.specs.List.{All, flat_map}
use Rattle.std.proofs.lemmas.List.{places, same_lists}
use Rattle.std.proofs.lemmas.List.Sums.{sum_by-cons}
use Rattle.block_pool.specs.Blocks.{Blocks}
use Rattle.block_bodies.specs.Bodies.{Chain, content_of}
use Rattle.upload_book.specs.declared.head_row.Kind.TheVariants.{Final}
use Rattle.upload_book.specs.declared.pieces.Piece.{Piece}
use Rattle.upload_book.specs.Stored.{StoredTenant, StoredUpload, upload_of, parts_of, pieces_len, Segment, segment_of}
use Rattle.upload_book.specs.inside.Pieces.{own_chain, bytes_of, HasOwnPiece, ReadsWhole}
use Rattle.upload_book.specs.TenantBook.{Entry}
use Rattle.upload_book.specs.Upload.{content_of as upload_content_of, offset_of}
use Rattle.upload_book.proofs.Charge.InUse.{Contains-first, Contains-later}
use Rattle.upload_book.proofs.Store.Pieces.{IsEntry}
use Rattle.upload_book.proofs.Store.PutLemmas.{own_piece}

-- an upload with one piece, sent to itself, has its own
pub HasOwnPiece-from : (e : Entry StoredUpload) (x : Chain) → e.kept.pieces ≡ own_piece e.id x ∷ [] → HasOwnPiece e
HasOwnPiece-from e x own = λ not_final. own ∙ ap (λ y. own_piece e.id y ∷ []) (sym (ap own_chain own))

-- so has a final one, of which nothing is asked
pub HasOwnPiece-final : (e : Entry StoredUpload) → e.kept.kind ≡ Final → HasOwnPiece e
HasOwnPiece-final e final = λ not_final. absurd (not_final final)

-- an upload that is not final has one piece
pub own-kept : (old : StoredTenant) (i : ℕ) (e : Entry StoredUpload) → All HasOwnPiece old.uploads → IsEntry old i e → e.kept.kind ≢ Final → e.kept.pieces ≡ own_piece e.id (own_chain e.kept.pieces) ∷ []
own-kept old i e own is not_final = subst HasOwnPiece (sym is.read) (own i e is.within) not_final

-- the bytes of an upload are those of its pieces, in order
pub content-kept : (p : Blocks) (u : StoredUpload) → upload_content_of (upload_of p u) ≡ bytes_of p u.pieces
content-kept p u = joined u.pieces where
  joined : (pieces : List Piece) → flat_map {X = List ℕ} {A = ℕ} (λ segment. segment) (map {A = Piece} {B = List ℕ} (λ x. content_of p x.chain) pieces) ≡ bytes_of p pieces
  joined [] = refl
  joined (x ∷ pieces) = ap (λ bytes. content_of p x.chain ++ bytes) (joined pieces)

-- they are as many as its pieces have together, where these read whole
pub offset-whole : (p : Blocks) (u : StoredUpload) → ReadsWhole p u.pieces → offset_of (upload_of p u) ≡ pieces_len u.pieces
offset-whole p u whole = ap (λ (bytes : List ℕ). length bytes) (content-kept p u) ∙ lengths u.pieces whole where
  lengths : (pieces : List Piece) → ReadsWhole p pieces → length (bytes_of p pieces) ≡ pieces_len pieces
  lengths [] each = refl
  lengths (x ∷ pieces) each =
      omega (
        arith,
        length-append (content_of p x.chain) (bytes_of p pieces),
        sum_by-cons (λ (x : Piece). x.chain.len) x pieces,
        each x (Contains-first x pieces),
        lengths pieces (λ y c. each y (Contains-later x y pieces c)),
      )

-- the parts of a joined upload are the origins of the pieces that it copies
pub parts-join : (p : Blocks) (u : StoredUpload) (parts : List Piece) → u.kind ≡ Final → map segment_of u.pieces ≡ map segment_of parts → (upload_of p u).parts ≡ map {A = Piece} {B = ℕ} (λ x. x.origin) parts
parts-join p u parts final same =
    ap (λ kind. parts_of kind (map {A = Piece} {B = ℕ} (λ x. x.origin) u.pieces)) final ∙ origins u.pieces ∙ ap (map {A = Segment} {B = ℕ} (λ s. s.origin)) same ∙ sym (origins parts)
  where
    origins : (pieces : List Piece) → map {A = Piece} {B = ℕ} (λ x. x.origin) pieces ≡ map {A = Segment} {B = ℕ} (λ s. s.origin) (map segment_of pieces)
    origins [] = refl
    origins (x ∷ pieces) = ap (λ ids. x.origin ∷ ids) (origins pieces)

-- ---- a range of bytes that lie in parts, onto what stood before

-- a range of two texts is what it has of the first, and the rest of it of the second
range-both : (front next : List ℕ) (offset count : ℕ) → take count (drop offset front) ++ take (count - length (take count (drop offset front))) (drop (offset - length front) next) ≡ take count (drop offset (front ++ next))
range-both front next offset count = same_lists _ _ (search (rules, places)) (λ i d l. grind (arith, places))

-- of one part more is read what is left of the range
pub range-more : (front next before read : List ℕ) (offset count left skipped : ℕ) → read ≡ before ++ take count (drop offset front) → skipped ≡ offset - length front → left ≡ length before + count - length read
    → read ++ take left (drop skipped next) ≡ before ++ take count (drop offset (front ++ next))
range-more front next before read offset count left skipped is passed rest =
    let few : left ≡ count - length (take count (drop offset front)) = omega (arith, ap (λ (bytes : List ℕ). length bytes) is, length-append before (take count (drop offset front))) in
    rw (few, passed, is) (append_assoc before _ _ ∙ ap (λ (bytes : List ℕ). before ++ bytes) (range-both front next offset count))

-- some bytes of a text that lie together are the first of them, and the others
span-parts : (content : List ℕ) (first count done left : ℕ) → done ≤ count → done ≤ length content - first → left ≡ min count (length content - first) - done
    → take done (drop first content) ++ take left (drop (first + done) content) ≡ take count (drop first content)
span-parts content first count done left few within rest = same_lists _ _ (search (rules, places)) (λ i d l. grind (arith, places))

-- how many these are
pub span-len : (content : List ℕ) (first count : ℕ) → length (take count (drop first content)) ≡ min count (length content - first)
span-len content first count = length-take count (drop first content) ∙ ap (min count) (length-drop first content)

-- the same where the first of them were there already
pub span-rest : (content begun : List ℕ) (first count done left offset : ℕ) → begun ≡ take (length begun) (drop first content) → length begun ≤ count → done ≡ length begun
    → left ≡ min count (length content - first) - done → offset ≡ first + done → begun ++ take left (drop offset content) ≡ take count (drop first content)
span-rest content begun first count done left offset is few at rest place =
    let within : length begun ≡ min (length begun) (length content - first) = ap (λ (bytes : List ℕ). length bytes) is ∙ span-len content first (length begun) in
    rw (place, at) (ap (λ (bytes : List ℕ). bytes ++ take left (drop (first + length begun) content)) is
    ∙ span-parts content first count (length begun) left few (omega (arith, within)) (omega (arith, rest, at)))
