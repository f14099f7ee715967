-- The segments of an upload as pieces of a snapshot: each brings its bytes unless a piece before it has its origin.
use Rattle.std.proofs.Common.{◌≡◌, ℕ, zero, suc, ◌<◌, ◌≤◌, Bool, true, false, cond, List, [], ◌∷◌, ◌++◌, ltb, length, get_or, drop, take, Option, Some, None, is_some, option_map, refl, sym, ap, ap₂, subst, ◌∙◌, arith, append_assoc, append-nil}
use Rattle.std.specs.List.{All, AllWithin, Contains, flat_map, slice_get}
use Rattle.std.proofs.lemmas.Bool.Decides.{nat_tests}
use Rattle.std.proofs.lemmas.List.{get_or-map, get_or_default, length-map, map-append, take-map}
use Rattle.std.proofs.lemmas.List.Elements.{All-head, All-tail, All-take}
use Rattle.std.proofs.lemmas.Option.{slice_get-get_or, slice_get_past}
use Rattle.block_pool.specs.Blocks.{Blocks}
use Rattle.block_bodies.specs.Bodies.{Chain, IsBodyOf, content_of}
use Rattle.upload_book.specs.BlockStore.{no_upload}
use Rattle.upload_book.specs.declared.head_row.HeadRow.{HeadRow}
use Rattle.upload_book.specs.declared.pieces.Piece.{Piece}
use Rattle.upload_book.specs.inside.Back.{row_back}
use Rattle.upload_book.specs.inside.FinalBack.{chain_from}
use Rattle.upload_book.specs.inside.KeptUpload.{kept_at}
use Rattle.upload_book.specs.inside.Pieces.{AreBodies, HasNoLaterPiece, HasOwnPiece, ReadsWhole, no_chain}
use Rattle.upload_book.specs.snapshot.Restore.{bytes_from, sent_in, sent_of}
use Rattle.upload_book.specs.snapshot.Restored.{RestoredSegment, RestoredUpload}
use Rattle.upload_book.specs.snapshot.Snapshot.{segments_kept, upload_kept}
use Rattle.upload_book.specs.Stored.{StoredTenant, StoredUpload, entry_of, part_of, pieces_of, upload_of}
use Rattle.upload_book.specs.TenantBook.{Entry}
use Rattle.upload_book.specs.Upload.{Upload, head_row_of}
use Rattle.upload_book.proofs.Charge.InUse.{Contains-first, Contains-later}
use Rattle.upload_book.proofs.Restoring.FinalFound.{bytes_from-chain, chain_from-later, sent-kept, sent-pieces, sent_piece, sent_pieces}
use Rattle.upload_book.proofs.Store.Pieces.{Contains-entry, IsEntry, kept_pieces}

-- a segment as it is put back, where one of its origin stands or not
abbrev kept_segment : ℕ × List ℕ → Option (List ℕ) → RestoredSegment
kept_segment s standing = record { origin = s.0; bytes = cond (is_some standing) None (Some s.1) }

-- the one at a place, behind all before it
pub kept-at : (standing sent : List (ℕ × List ℕ)) (k : ℕ) (d : RestoredSegment) (s : ℕ × List ℕ) → k < length sent → s ≡ get_or sent k s → get_or (segments_kept standing sent) k d ≡ record { origin = s.0; bytes = cond (is_some (bytes_from (standing ++ take k sent) s.0)) None (Some s.1) }
kept-at standing [] k d s l read = absurd (omega arith)
kept-at standing (a ∷ sent) zero d s l read =
    ap (λ (s : ℕ × List ℕ). kept_segment s (bytes_from standing s.0)) (sym read) ∙ ap (λ (l : List (ℕ × List ℕ)). kept_segment s (bytes_from l s.0)) (sym (append-nil standing))
kept-at standing (a ∷ sent) (suc k) d s l read =
    kept-at (standing ++ a ∷ []) sent k d s (omega (arith, l)) read ∙ ap (λ (l : List (ℕ × List ℕ)). kept_segment s (bytes_from l s.0)) (append_assoc standing (a ∷ []) (take k sent))

-- bytes stand of an origin where a piece has it
pub stands-chain : (p : Blocks) (pieces : List Piece) (origin : ℕ) → is_some (bytes_from (sent_pieces p pieces) origin) ≡ is_some (chain_from pieces origin)
stands-chain p pieces origin = ap (is_some {T = List ℕ}) (bytes_from-chain p pieces origin) ∙ mapped (chain_from pieces origin) where
  mapped : (found : Option Chain) → is_some (option_map (content_of p) found) ≡ is_some found
  mapped None = refl
  mapped (Some z) = refl

-- the segments of the uploads before a place are their pieces
pub sent-before : (p : Blocks) (t : StoredTenant) (place : ℕ) → All HasOwnPiece t.uploads → sent_in (take place (part_of p t).uploads) ≡ sent_pieces p (flat_map kept_pieces (take place t.uploads))
sent-before p t place own = ap sent_in (take-map (entry_of p) place t.uploads) ∙ sent-pieces p (take place t.uploads) (All-take HasOwnPiece place t.uploads own)

-- there are as many as the upload has
kept-count : (standing sent : List (ℕ × List ℕ)) → length (segments_kept standing sent) ≡ length sent
kept-count standing [] = refl
kept-count standing (s ∷ sent) = ap suc (kept-count (standing ++ s ∷ []) sent)

-- ---- the upload at a place

-- which was read
pub entry-read : (t : StoredTenant) (place : ℕ) (e : Entry StoredUpload) → place < length t.uploads → e ≡ get_or t.uploads place e → IsEntry t place e
entry-read t place e within read = record { within = within; read = read }

-- as the plain book has it
pub kept_at-is : (p : Blocks) (t : StoredTenant) (place : ℕ) (e : Entry StoredUpload) → IsEntry t place e → kept_at p t place ≡ upload_kept (take place (part_of p t).uploads) (entry_of p e)
kept_at-is p t place e entry =
    ap (upload_kept (take place (part_of p t).uploads)) (get_or-map (entry_of p) t.uploads place e (entry_of p no_upload) entry.within ∙ ap (entry_of p) (sym entry.read))

-- its segments are its pieces
sent-entry : (p : Blocks) (t : StoredTenant) (place : ℕ) (e : Entry StoredUpload) → IsEntry t place e → All HasOwnPiece t.uploads → sent_of (entry_of p e) ≡ sent_pieces p e.kept.pieces
sent-entry p t place e entry own = sent-kept p e (subst HasOwnPiece (sym entry.read) (own place e entry.within))

pub count-is : (p : Blocks) (t : StoredTenant) (place : ℕ) (e : Entry StoredUpload) → IsEntry t place e → All HasOwnPiece t.uploads → length (kept_at p t place).segments ≡ length e.kept.pieces
count-is p t place e entry own =
    ap (λ (r : RestoredUpload). length r.segments) (kept_at-is p t place e entry)
    ∙ kept-count (sent_in (take place (part_of p t).uploads)) (sent_of (entry_of p e))
    ∙ ap (length {A = ℕ × List ℕ}) (sent-entry p t place e entry own)
    ∙ length-map e.kept.pieces (sent_piece p)

-- a segment is its piece, which brings its bytes where no piece before it has its origin
pub segment-is : (p : Blocks) (t : StoredTenant) (place : ℕ) (e : Entry StoredUpload) (k : ℕ) (x : Piece) (d : RestoredSegment) → IsEntry t place e → All HasOwnPiece t.uploads → k < length e.kept.pieces → x ≡ get_or e.kept.pieces k x
    → get_or (kept_at p t place).segments k d ≡ record { origin = x.origin; bytes = cond (is_some (chain_from (flat_map kept_pieces (take place t.uploads) ++ take k e.kept.pieces) x.origin)) None (Some (content_of p x.chain)) }
segment-is p t place e k x d entry own within read =
    let pieces = e.kept.pieces in
    let before = flat_map kept_pieces (take place t.uploads) in
    let s = sent_piece p x in
    let there : k < length (sent_pieces p pieces) = omega (arith, length-map pieces (sent_piece p), within) in
    let read_sent : s ≡ get_or (sent_pieces p pieces) k s = sym (get_or-map (sent_piece p) pieces k x s within ∙ ap (sent_piece p) (sym read)) in
    let together : sent_pieces p before ++ take k (sent_pieces p pieces) ≡ sent_pieces p (before ++ take k pieces) =
    ap (λ (l : List (ℕ × List ℕ)). sent_pieces p before ++ l) (take-map (sent_piece p) k pieces) ∙ sym (map-append (sent_piece p) before (take k pieces)) in
    let stands = ap (λ (l : List (ℕ × List ℕ)). is_some (bytes_from l x.origin)) together ∙ stands-chain p (before ++ take k pieces) x.origin in
    ap (λ (r : RestoredUpload). get_or r.segments k d) (kept_at-is p t place e entry)
    ∙ ap₂ (λ (a b : List (ℕ × List ℕ)). get_or (segments_kept a b) k d) (sent-before p t place own) (sent-entry p t place e entry own)
    ∙ kept-at (sent_pieces p before) (sent_pieces p pieces) k d s there read_sent
    ∙ ap (λ (told : Bool). record { origin = x.origin; bytes = cond told None (Some (content_of p x.chain)) }) stands

-- a piece that is read at a place, as calls tell of it
abbrev IsOriginAt : List Piece → ℕ → ℕ → Type 0
IsOriginAt pieces k origin = (d : Piece) → origin ≡ (get_or pieces k d).origin

abbrev IsChainAt : List Piece → ℕ → Chain → Type 0
IsChainAt pieces k chain = (d : Piece) → chain ≡ (get_or pieces k d).chain

-- whether one before it has its origin
abbrev StandsBefore : StoredTenant → ℕ → ℕ → ℕ → Bool → Type 0
StandsBefore t place k origin stands =
    (d : Entry StoredUpload) → stands ≡ is_some (chain_from (flat_map kept_pieces (take place t.uploads) ++ take k (get_or t.uploads place d).kept.pieces) origin)

no_piece : Piece
no_piece = record { origin = 0; chain = no_chain }

told-so : (p : Blocks) (t : StoredTenant) (place : ℕ) (e : Entry StoredUpload) (k origin : ℕ) (stands : Bool) (d : RestoredSegment) → IsEntry t place e → All HasOwnPiece t.uploads → k < length e.kept.pieces → IsOriginAt e.kept.pieces k origin
    → StandsBefore t place k origin stands → get_or (kept_at p t place).segments k d ≡ record { origin = origin; bytes = cond stands None (Some (content_of p (get_or e.kept.pieces k no_piece).chain)) }
told-so p t place e k origin stands d entry own within origin_is stands_is =
    let x = get_or e.kept.pieces k no_piece in
    let before = flat_map kept_pieces (take place t.uploads) in
    let read : x ≡ get_or e.kept.pieces k x = get_or_default e.kept.pieces k no_piece x within in
    let told : stands ≡ is_some (chain_from (before ++ take k e.kept.pieces) x.origin) =
    stands_is e ∙ ap₂ (λ (e : Entry StoredUpload) (o : ℕ). is_some (chain_from (before ++ take k e.kept.pieces) o)) (sym entry.read) (origin_is no_piece) in
    segment-is p t place e k x d entry own within read ∙ ap₂ (λ (o : ℕ) (b : Bool). record { origin = o; bytes = cond b None (Some (content_of p x.chain)) }) (sym (origin_is no_piece)) (sym told)

pub segment-stands : (p : Blocks) (t : StoredTenant) (place : ℕ) (e : Entry StoredUpload) (k origin : ℕ) (stands : Bool) (d : RestoredSegment) → IsEntry t place e → All HasOwnPiece t.uploads → k < length e.kept.pieces → IsOriginAt e.kept.pieces k origin
    → StandsBefore t place k origin stands → stands ≡ true → (let none : RestoredSegment = record { origin = origin; bytes = None } in none) ≡ get_or (kept_at p t place).segments k d
segment-stands p t place e k origin stands d entry own within origin_is stands_is told =
    sym (told-so p t place e k origin stands d entry own within origin_is stands_is ∙ ap (λ (b : Bool). record { origin = origin; bytes = cond b None (Some (content_of p (get_or e.kept.pieces k no_piece).chain)) }) told)

pub segment-brings : (p : Blocks) (t : StoredTenant) (place : ℕ) (e : Entry StoredUpload) (k origin : ℕ) (chain : Chain) (stands : Bool) (d : RestoredSegment) → IsEntry t place e → All HasOwnPiece t.uploads → k < length e.kept.pieces → IsOriginAt e.kept.pieces k origin
    → IsChainAt e.kept.pieces k chain → StandsBefore t place k origin stands → stands ≡ false → (let some : RestoredSegment = record { origin = origin; bytes = Some (content_of p chain) } in some) ≡ get_or (kept_at p t place).segments k d
segment-brings p t place e k origin chain stands d entry own within origin_is chain_is stands_is told =
    ap (λ (z : Chain). record { origin = origin; bytes = Some (content_of p z) }) (chain_is no_piece)
    ∙ sym (told-so p t place e k origin stands d entry own within origin_is stands_is ∙ ap (λ (b : Bool). record { origin = origin; bytes = cond b None (Some (content_of p (get_or e.kept.pieces k no_piece).chain)) }) told)

-- its body is one of the pool, and reads whole
pub body-at : (p : Blocks) (t : StoredTenant) (place : ℕ) (e : Entry StoredUpload) (k : ℕ) (chain : Chain) → IsEntry t place e → AreBodies p (pieces_of t) → ReadsWhole p (pieces_of t) → k < length e.kept.pieces → IsChainAt e.kept.pieces k chain
    → IsBodyOf p chain × (length (content_of p chain) ≡ chain.len)
body-at p t place e k chain entry bodies reads within is =
    let x = get_or e.kept.pieces k no_piece in
    let here : Contains e.kept.pieces x = (k, within, get_or_default e.kept.pieces k x no_piece within) in
    let there = Contains-entry t place e x entry here in
    subst (λ (z : Chain). IsBodyOf p z × (length (content_of p z) ≡ z.len)) (sym (is no_piece)) (bodies x there, reads x there)

-- what there is at a place, or past the last one
abbrev pub kept_from : Blocks → StoredTenant → ℕ → Option RestoredUpload
kept_from p t place = option_map (λ (e : Entry Upload). upload_kept (take place (part_of p t).uploads) e) (slice_get (part_of p t).uploads place)

pub kept-there : (p : Blocks) (t : StoredTenant) (place : ℕ) → place < length t.uploads → Some (kept_at p t place) ≡ kept_from p t place
kept-there p t place within =
    let there : place < length (part_of p t).uploads = omega (arith, length-map t.uploads (entry_of p), within) in
    sym (ap (option_map (λ (e : Entry Upload). upload_kept (take place (part_of p t).uploads) e)) (slice_get-get_or (part_of p t).uploads place (entry_of p no_upload) there))

pub kept-past : (p : Blocks) (t : StoredTenant) (place : ℕ) → length t.uploads ≤ place → None ≡ kept_from p t place
kept-past p t place past =
    let there : length (part_of p t).uploads ≤ place = omega (arith, length-map t.uploads (entry_of p), past) in
    sym (ap (option_map (λ (e : Entry Upload). upload_kept (take place (part_of p t).uploads) e)) (slice_get_past (part_of p t).uploads place there))

-- what a HEAD tells of it is its row
pub row-is : (p : Blocks) (t : StoredTenant) (place : ℕ) (e : Entry StoredUpload) (row : HeadRow) → IsEntry t place e → row ≡ head_row_of (upload_of p e.kept) → row ≡ row_back (kept_at p t place) row.offset
row-is p t place e row entry told = told ∙ ap₂ row_back (sym (kept_at-is p t place e entry)) (ap (λ (r : HeadRow). r.offset) (sym told))

-- pieces of earlier origins have none of this one
none-later : (pieces : List Piece) (origin : ℕ) → ((x : Piece) → Contains pieces x → x.origin < origin) → chain_from pieces origin ≡ None
none-later [] origin earlier = refl
none-later (x ∷ pieces) origin earlier =
    let here : x.origin < origin = earlier x (Contains-first x pieces) in
    let rest : chain_from pieces origin ≡ None = none-later pieces origin (λ y c. earlier y (Contains-later x y pieces c)) in
    grind (arith, nat_tests)

-- the pieces of an origin stand behind all uploads before it
pub chain_from-drop : (uploads : List (Entry StoredUpload)) (first origin : ℕ) → All HasNoLaterPiece uploads → AllWithin (λ (e : Entry StoredUpload). ltb e.id origin ≡ true) uploads 0 first
    → chain_from (flat_map kept_pieces (drop first uploads)) origin ≡ chain_from (flat_map kept_pieces uploads) origin
chain_from-drop [] zero origin none before = refl
chain_from-drop [] (suc first) origin none before = refl
chain_from-drop (e ∷ uploads) zero origin none before = refl
chain_from-drop (e ∷ uploads) (suc first) origin none before =
    let early : e.id < origin = (let test : ltb e.id origin ≡ true = before 0 e (omega arith) (omega arith) in grind (arith, nat_tests)) in
    let here : HasNoLaterPiece e = All-head HasNoLaterPiece e uploads none in
    chain_from-drop uploads first origin (All-tail HasNoLaterPiece e uploads none) (λ k d low high. before (suc k) d (omega arith) (omega arith))
    ∙ sym (chain_from-later e.kept.pieces (flat_map kept_pieces uploads) origin (none-later e.kept.pieces origin (λ x c. omega (arith, early, here x c))))
