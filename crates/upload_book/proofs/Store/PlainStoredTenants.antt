-- What the plain book sees where one tenant's pieces change: that tenant's part at one entry, and nothing else.
use Rattle.std.proofs.Common.{◌≡◌, ◌≢◌, ℕ, suc, ◌+◌, ◌<◌, List, [], ◌∷◌, ◌++◌, map, length, set, take, drop, refl, ap, sym, ◌∙◌, arith, append-nil}
use Rattle.std.specs.List.{Contains, flat_map, remove}
use Rattle.std.proofs.Math.ListN.{length-map}
use Rattle.std.proofs.lemmas.List.{map-append, take-map, drop-map, set_split, map_push}
use Rattle.std.proofs.lemmas.List.Elements.{Contains-append_left, Contains-append_right}
use Rattle.std.proofs.lemmas.List.Sums.{get_or-le-sum_by}
use Rattle.block_pool.specs.Blocks.{Blocks, bytes_at, bytes_of, places_of}
use Rattle.block_pool.proofs.BlocksLaws.{bytes_of-same}
use Rattle.block_bodies.specs.Bodies.{Chain, content_of}
use Rattle.block_bodies.specs.Changes.{Puts, Holds, GivesBack}
use Rattle.upload_book.specs.declared.pieces.Piece.{Piece}
use Rattle.upload_book.specs.Stored.{StoredTenant, StoredUpload, upload_of, entry_of, part_of, placed_in, places_on, parts_of, HoldsPieces, Segment, segment_of}
use Rattle.upload_book.specs.TenantBook.{Entry, TenantBook, with_new}
use Rattle.upload_book.specs.Upload.{Upload, content_of as upload_content_of}
use Rattle.upload_book.proofs.Charge.InUse.{places-within, Contains-first, Contains-later}
use Rattle.upload_book.proofs.Store.Pieces.{IsEntry, Leaves, with_entry, without, kept_pieces, places_at, places-without, places-entries, Contains-remove_at}
use Rattle.upload_book.proofs.Store.PutLemmas.{own_piece, own-places}
use Rattle.upload_book.proofs.Store.StoredTenants.{IsStoredTenant, IsStoredOn, IsStoredOn-stored_tenant, places_on-held, stored_tenants-apart}

-- functions that agree on what a list has map it alike
pub map-same : {X Y : Type 0} (f g : X → Y) (xs : List X) → ((x : X) → Contains xs x → f x ≡ g x) → map f xs ≡ map g xs
map-same f g [] same = refl
map-same f g (x ∷ xs) same =
    let here : f x ≡ g x = same x (Contains-first x xs) in
    let rest : map f xs ≡ map g xs = map-same f g xs (λ y c. same y (Contains-later x y xs c)) in
    ap (λ y. y ∷ map f xs) here ∙ ap (λ ys. g x ∷ ys) rest

-- a list without a place is mapped to the list without the place
map-remove : {X Y : Type 0} (f : X → Y) (xs : List X) (i : ℕ) → map f (remove xs i) ≡ remove (map f xs) i
map-remove f xs i =
    map-append f (take i xs) (drop (suc i) xs) ∙ ap (λ ys. ys ++ map f (drop (suc i) xs)) (sym (take-map f i xs)) ∙ ap (λ ys. take i (map f xs) ++ ys) (sym (drop-map f (suc i) xs))

-- one place changes, and the others are mapped as before
map-set_same : {X Y : Type 0} (f g : X → Y) (xs : List X) (i : ℕ) (x : X) → i < length xs → ((y : X) → Contains (remove xs i) y → f y ≡ g y) → map f (set xs i x) ≡ set (map g xs) i (f x)
map-set_same f g xs i x l same =
    let there : i < length (map g xs) = omega (arith, length-map xs g) in
    let front : map f (take i xs) ≡ take i (map g xs) = map-same f g (take i xs) (λ y c. same y (Contains-append_left (take i xs) (drop (suc i) xs) y c)) ∙ sym (take-map g i xs) in
    let back : map f (drop (suc i) xs) ≡ drop (suc i) (map g xs) = map-same f g (drop (suc i) xs) (λ y c. same y (Contains-append_right (take i xs) (drop (suc i) xs) y c)) ∙ sym (drop-map g (suc i) xs) in
    ap (map f) (set_split xs i x l) ∙ map-append f (take i xs) (x ∷ drop (suc i) xs) ∙ ap (λ ys. ys ++ f x ∷ map f (drop (suc i) xs)) front
    ∙ ap (λ ys. take i (map g xs) ++ f x ∷ ys) back ∙ sym (set_split (map g xs) i (f x) there)

-- blocks that stand somewhere keep their bytes
abbrev pub KeepBytes : Blocks → Blocks → (ℕ → ℕ) → Type 0
KeepBytes p q places = (b : ℕ) → 0 < places b → bytes_at q b ≡ bytes_at p b

-- a body whose blocks keep their bytes keeps its own
pub content-same : (p q : Blocks) (x : Chain) → KeepBytes p q (λ b. places_of b x.blocks) → content_of q x ≡ content_of p x
content-same p q x same = ap (take x.len) (bytes_of-same p q x.blocks same)

-- so does an upload
pub upload-same : (p q : Blocks) (u : StoredUpload) → KeepBytes p q (λ b. places_of b (placed_in u.pieces)) → upload_of q u ≡ upload_of p u
upload-same p q u same =
    let origins : List ℕ = map {A = Piece} {B = ℕ} (λ x. x.origin) u.pieces in
    let with_segments : List (List ℕ) → Upload =
    λ segments. record {
      kind = u.kind;
      parts = parts_of u.kind origins;
      declared = u.declared;
      segments = segments;
      metadata = u.metadata;
      concat = u.concat;
      expires = u.expires;
    } in
    ap with_segments (map-same {X = Piece} {Y = List ℕ} (λ x. content_of q x.chain) (λ x. content_of p x.chain) u.pieces (λ x c.
    content-same p q x.chain (λ b some. same b (omega (arith, places-within b u.pieces x c)))))

-- and its entry
pub entry-same : (p q : Blocks) (e : Entry StoredUpload) → KeepBytes p q (λ b. places_at b e) → entry_of q e ≡ entry_of p e
entry-same p q e same =
    let with_upload : Upload → Entry Upload = λ u. record { id = e.id; kept = u } in
    ap with_upload (upload-same p q e.kept same)

-- the blocks of an entry stand where its pieces do
pub entry-places : (b : ℕ) (entries : List (Entry StoredUpload)) (e : Entry StoredUpload) → Contains entries e → 0 < places_at b e → 0 < places_of b (placed_in (flat_map kept_pieces entries))
entry-places b entries e c some =
    omega (arith, places-entries b entries, get_or-le-sum_by (places_at b) entries c.0 e c.1, ap (places_at b) c.2)

-- a tenant's part with these uploads
abbrev with_uploads : TenantBook → List (Entry Upload) → TenantBook
with_uploads part uploads = record part { uploads = uploads }

-- and a tenant's part
pub part-same : (p q : Blocks) (stored_tenant : StoredTenant) → KeepBytes p q (λ b. places_on b stored_tenant) → part_of q stored_tenant ≡ part_of p stored_tenant
part-same p q stored_tenant same =
    ap (with_uploads (part_of p stored_tenant)) (map-same {X = Entry StoredUpload} {Y = Entry Upload} (entry_of q) (entry_of p) stored_tenant.uploads (λ e c.
    entry-same p q e (λ b some. same b (entry-places b stored_tenant.uploads e c some))))

-- where the blocks of the others keep their bytes, the part changes at one entry,
pub part-with_entry : (p q : Blocks) (old : StoredTenant) (i : ℕ) (new : Entry StoredUpload) → i < length old.uploads → KeepBytes p q (λ b. places_on b (without old i))
    → part_of q (with_entry old i new) ≡ record (part_of p old) { uploads = set (part_of p old).uploads i (entry_of q new) }
part-with_entry p q old i new l same =
    ap (with_uploads (part_of p old)) (map-set_same {X = Entry StoredUpload} {Y = Entry Upload} (entry_of q) (entry_of p) old.uploads i new l (λ e c.
    entry-same p q e (λ b some. same b (entry-places b (remove old.uploads i) e c some))))

-- or it loses one,
pub part-without : (p q : Blocks) (old : StoredTenant) (i : ℕ) → KeepBytes p q (λ b. places_on b (without old i)) → part_of q (without old i) ≡ record (part_of p old) { uploads = remove (part_of p old).uploads i }
part-without p q old i same =
    part-same p q (without old i) same ∙ ap (with_uploads (part_of p old)) (map-remove {X = Entry StoredUpload} {Y = Entry Upload} (entry_of p) old.uploads i)

-- or gets one more
pub part-with_new : (p q : Blocks) (old : StoredTenant) (kept : StoredUpload) → KeepBytes p q (λ b. places_on b old) → part_of q (with_new old kept) ≡ with_new (part_of p old) (upload_of q kept)
part-with_new p q old kept same =
    let e : Entry StoredUpload = record { id = old.next; kept = kept } in
    ap (λ (uploads : List (Entry Upload)). record { quota = old.quota; next = old.next + 1; uploads = uploads })
    (map_push {X = Entry StoredUpload} {Y = Entry Upload} (entry_of q) old.uploads e
    ∙ ap (λ (uploads : List (Entry Upload)). uploads ++ entry_of q e ∷ []) (ap (λ (part : TenantBook). part.uploads) (part-same p q old same)))

-- where the blocks of the other tenants keep their bytes, one part changes
pub parts-changed : (p q : Blocks) (stored_tenants : List StoredTenant) (t : ℕ) (s : StoredTenant) → t < length stored_tenants → ((k : ℕ) (other : StoredTenant) → IsStoredTenant stored_tenants k other → k ≢ t → KeepBytes p q (λ b. places_on b other))
    → map (part_of q) (set stored_tenants t s) ≡ set (map (part_of p) stored_tenants) t (part_of q s)
parts-changed p q stored_tenants t s l same =
    map-set_same (part_of q) (part_of p) stored_tenants t s l (λ other c.
    let there = Contains-remove_at stored_tenants t other l c in
    part-same p q other (same there.0 other (record { within = there.1; read = sym there.3 }) there.2))

-- bytes are put: the blocks of the tenant's other entries keep theirs,
pub put-keeps : (p : Blocks) (old : StoredTenant) (i : ℕ) (e : Entry StoredUpload) (x : Chain) (bytes : List ℕ) (q : Blocks) (y : Chain) → IsStoredOn p old → IsEntry old i e → e.kept.pieces ≡ own_piece e.id x ∷ [] → Puts p x bytes q y → KeepBytes p q (λ b. places_on b (without old i))
put-keeps p old i e x bytes q y on is own f b some =
    f.others b (omega (arith, places-without b old i e is, own-places b e e.id x own, places_on-held p old on b))

-- and those of the other tenants
pub put-keeps_elsewhere : (p : Blocks) (stored_tenants : List StoredTenant) (t : ℕ) (old : StoredTenant) (i : ℕ) (e : Entry StoredUpload) (x : Chain) (bytes : List ℕ) (q : Blocks) (y : Chain) → HoldsPieces p stored_tenants → IsStoredTenant stored_tenants t old → IsEntry old i e → e.kept.pieces ≡ own_piece e.id x ∷ [] → Puts p x bytes q y
    → (k : ℕ) (other : StoredTenant) → IsStoredTenant stored_tenants k other → k ≢ t → KeepBytes p q (λ b. places_on b other)
put-keeps_elsewhere p stored_tenants t old i e x bytes q y kept stored_tenant is own f k other there differs b some =
    let none : places_on b old ≡ 0 = stored_tenants-apart p stored_tenants t k old other kept stored_tenant there differs b some in
    f.others b (omega (arith, places-without b old i e is, own-places b e e.id x own, places_on-held p other (IsStoredOn-stored_tenant p stored_tenants k other kept there) b))

-- blocks are given back: those of the tenant's other pieces keep their bytes,
pub gone-keeps : (p : Blocks) (old s : StoredTenant) (gone : List Piece) (freed : ℕ) (q : Blocks) → IsStoredOn p old → Leaves old s gone → GivesBack p (placed_in gone) freed q → KeepBytes p q (λ b. places_on b s)
gone-keeps p old s gone freed q on is g b some =
    g.bytes b (omega (arith, is.places b, g.counts b, places_on-held p old on b))

-- and those of the other tenants
pub gone-keeps_elsewhere : (p : Blocks) (stored_tenants : List StoredTenant) (t : ℕ) (old s : StoredTenant) (gone : List Piece) (freed : ℕ) (q : Blocks) → HoldsPieces p stored_tenants → IsStoredTenant stored_tenants t old → Leaves old s gone → GivesBack p (placed_in gone) freed q
    → (k : ℕ) (other : StoredTenant) → IsStoredTenant stored_tenants k other → k ≢ t → KeepBytes p q (λ b. places_on b other)
gone-keeps_elsewhere p stored_tenants t old s gone freed q kept stored_tenant is g k other there differs b some =
    let none : places_on b old ≡ 0 = stored_tenants-apart p stored_tenants t k old other kept stored_tenant there differs b some in
    g.bytes b (omega (arith, is.places b, g.counts b, places_on-held p other (IsStoredOn-stored_tenant p stored_tenants k other kept there) b))

-- the segments of an upload with one piece
pub segments-own : (p : Blocks) (u : StoredUpload) (id : ℕ) (x : Chain) → u.pieces ≡ own_piece id x ∷ [] → (upload_of p u).segments ≡ content_of p x ∷ []
segments-own p u id x own = ap (map {A = Piece} {B = List ℕ} (λ x. content_of p x.chain)) own

-- its bytes
pub content-own : (p : Blocks) (u : StoredUpload) (id : ℕ) (x : Chain) → u.pieces ≡ own_piece id x ∷ [] → upload_content_of (upload_of p u) ≡ content_of p x
content-own p u id x own = ap (flat_map {X = List ℕ} {A = ℕ} (λ segment. segment)) (segments-own p u id x own) ∙ append-nil (content_of p x)

-- the bytes of a segment
abbrev content_at : Blocks → Segment → List ℕ
content_at p s = take s.len (bytes_of p s.blocks)

-- pieces with the same segments have the same bytes
contents-segments : (p : Blocks) (pieces : List Piece) → map {A = Piece} {B = List ℕ} (λ x. content_of p x.chain) pieces ≡ map (content_at p) (map segment_of pieces)
contents-segments p [] = refl
contents-segments p (x ∷ pieces) = ap (λ segments. content_of p x.chain ∷ segments) (contents-segments p pieces)

-- the segments of a joined upload are those of its parts
pub segments-join : (p : Blocks) (u : StoredUpload) (list : List ℕ) (parts : List Piece) (q : Blocks) → Holds p list q → map segment_of u.pieces ≡ map segment_of parts → (upload_of q u).segments ≡ map {A = Piece} {B = List ℕ} (λ x. content_of p x.chain) parts
segments-join p u list parts q h same =
    ap (λ (u : Upload). u.segments) (upload-same p q u (λ b some. h.bytes b)) ∙ contents-segments p u.pieces ∙ ap (map (content_at p)) same ∙ sym (contents-segments p parts)
