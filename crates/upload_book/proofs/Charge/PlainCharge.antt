-- What a tenant pays by the plain book is what it pays by how its pieces are kept.
use Rattle.std.proofs.Common.{◌≡◌, ◌≢◌, ℕ, List, [], ◌∷◌, ◌++◌, map, length, zip, refl, ap, sym, subst, ◌∙◌}
use Rattle.std.specs.List.{All, Contains, flat_map}
use Rattle.std.proofs.lemmas.List.{map-append}
use Rattle.std.proofs.lemmas.List.Elements.{All-head, All-tail, Contains-append_left, Contains-append_right}
use Rattle.block_pool.specs.Blocks.{Blocks}
use Rattle.block_bodies.specs.Bodies.{Chain, content_of}
use Rattle.upload_book.specs.Charge.{Source, origins, sources_of, charge_of, charge_with}
use Rattle.upload_book.specs.declared.head_row.Kind.{Kind}
use Rattle.upload_book.specs.declared.head_row.Kind.TheVariants.{Plain, Partial, Final}
use Rattle.upload_book.specs.declared.pieces.Piece.{Piece}
use Rattle.upload_book.specs.Stored.{StoredTenant, StoredUpload, parts_of, entry_of, part_of, charge_on, pieces_of}
use Rattle.upload_book.specs.inside.Pieces.{own_chain, HasOwnPiece, ReadsWhole}
use Rattle.upload_book.specs.TenantBook.{Entry}
use Rattle.upload_book.specs.Upload.{Upload}
use Rattle.upload_book.proofs.Charge.InUse.{paid, Contains-first, Contains-later}
use Rattle.upload_book.proofs.Store.Pieces.{kept_pieces}
use Rattle.upload_book.proofs.Store.PutLemmas.{own_piece}

-- the bytes of each piece
abbrev contents : Blocks → List Piece → List (List ℕ)
contents p pieces = map {A = Piece} {B = List ℕ} (λ x. content_of p x.chain) pieces

-- origins with their bytes, as they are paid
abbrev paid_with : List ℕ → List (List ℕ) → List Source
paid_with ids segments = map {A = ℕ × List ℕ} {B = Source} (λ p. record { origin = p.0; len = length p.1 }) (zip ids segments)

-- an upload that is not final is paid as its piece
paid-own : (p : Blocks) (id : ℕ) (pieces : List Piece) (x : Chain) → pieces ≡ own_piece id x ∷ [] → ReadsWhole p pieces → paid_with (id ∷ []) (contents p pieces) ≡ map paid pieces
paid-own p id pieces x own long =
    let here : Contains pieces (own_piece id x) = subst (λ pieces. Contains pieces (own_piece id x)) (sym own) (Contains-first (own_piece id x) []) in
    let one : ℕ → List Source = λ n. record { origin = id; len = n } ∷ [] in
    ap (λ pieces. paid_with (id ∷ []) (contents p pieces)) own ∙ ap one (long (own_piece id x) here) ∙ sym (ap (map paid) own)

-- a final one as its pieces
paid-final : (p : Blocks) (pieces : List Piece) → ReadsWhole p pieces → paid_with (map {A = Piece} {B = ℕ} (λ x. x.origin) pieces) (contents p pieces) ≡ map paid pieces
paid-final p [] long = refl
paid-final p (x ∷ pieces) long =
    let rest : paid_with (map {A = Piece} {B = ℕ} (λ x. x.origin) pieces) (contents p pieces) ≡ map paid pieces =
    paid-final p pieces (λ y c. long y (Contains-later x y pieces c)) in
    let first : ℕ → List Source → List Source = λ n sources. record { origin = x.origin; len = n } ∷ sources in
    ap (λ n. first n (paid_with (map {A = Piece} {B = ℕ} (λ x. x.origin) pieces) (contents p pieces))) (long x (Contains-first x pieces)) ∙ ap (first x.chain.len) rest

-- each upload as its pieces
paid-kept : (p : Blocks) (kind : Kind) (id : ℕ) (pieces : List Piece) → (kind ≢ Final → pieces ≡ own_piece id (own_chain pieces) ∷ []) → ReadsWhole p pieces
    → paid_with (origins kind id (parts_of kind (map {A = Piece} {B = ℕ} (λ x. x.origin) pieces))) (contents p pieces) ≡ map paid pieces
paid-kept p Plain id pieces own long = paid-own p id pieces (own_chain pieces) (own (λ e. absurd cc)) long
paid-kept p Partial id pieces own long = paid-own p id pieces (own_chain pieces) (own (λ e. absurd cc)) long
paid-kept p Final id pieces own long = paid-final p pieces long

-- all uploads as all pieces
paid-entries : (p : Blocks) (entries : List (Entry StoredUpload)) → All HasOwnPiece entries → ReadsWhole p (flat_map kept_pieces entries)
    → flat_map sources_of (map {A = Entry StoredUpload} {B = Entry Upload} (entry_of p) entries) ≡ map paid (flat_map kept_pieces entries)
paid-entries p [] own long = refl
paid-entries p (e ∷ entries) own long =
    let here : sources_of (entry_of p e) ≡ map paid e.kept.pieces =
    paid-kept p e.kept.kind e.id e.kept.pieces (All-head HasOwnPiece e entries own) (λ x c. long x (Contains-append_left e.kept.pieces (flat_map kept_pieces entries) x c)) in
    let rest : flat_map sources_of (map {A = Entry StoredUpload} {B = Entry Upload} (entry_of p) entries) ≡ map paid (flat_map kept_pieces entries) =
    paid-entries p entries (All-tail HasOwnPiece e entries own) (λ x c. long x (Contains-append_right e.kept.pieces (flat_map kept_pieces entries) x c)) in
    ap (λ sources. sources ++ flat_map sources_of (map {A = Entry StoredUpload} {B = Entry Upload} (entry_of p) entries)) here
    ∙ ap (λ sources. map paid e.kept.pieces ++ sources) rest ∙ sym (map-append paid e.kept.pieces (flat_map kept_pieces entries))

-- what a tenant pays by the plain book is what it pays by its pieces
pub charge-plain : (size : ℕ) (p : Blocks) (stored_tenant : StoredTenant) → All HasOwnPiece stored_tenant.uploads → ReadsWhole p (pieces_of stored_tenant) → charge_with size (part_of p stored_tenant) ≡ charge_on size stored_tenant
charge-plain size p stored_tenant own long = ap (charge_of size stored_tenant.next) (paid-entries p stored_tenant.uploads own long)
