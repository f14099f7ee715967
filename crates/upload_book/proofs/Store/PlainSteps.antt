-- The plain book's uploads and parts after each step on what is kept.
use Rattle.std.proofs.Common.{◌≡◌, ℕ, List, [], ◌∷◌, ◌++◌, map, Option, ap, ap₂, sym, ◌∙◌}
use Rattle.block_pool.specs.Blocks.{Blocks}
use Rattle.block_bodies.specs.Bodies.{Chain, content_of}
use Rattle.block_bodies.specs.Changes.{Puts}
use Rattle.upload_book.specs.declared.pieces.Piece.{Piece}
use Rattle.upload_book.specs.Stored.{StoredUpload, upload_of, parts_of}
use Rattle.upload_book.specs.Upload.{Upload, content_of as upload_content_of}
use Rattle.upload_book.proofs.Store.PlainStoredTenants.{content-own}
use Rattle.upload_book.proofs.Store.PutLemmas.{own_piece}

-- an upload to which bytes were put: its bytes and these are its one segment
pub upload-put : (p : Blocks) (u : StoredUpload) (id : ℕ) (x : Chain) (bytes : List ℕ) (q : Blocks) (y : Chain) (declared expires : Option ℕ) → u.pieces ≡ own_piece id x ∷ [] → Puts p x bytes q y
    → upload_of q (record u { pieces = own_piece id y ∷ []; declared = declared; expires = expires })
    ≡ record (upload_of p u) { segments = (upload_content_of (upload_of p u) ++ bytes) ∷ []; declared = declared; expires = expires }
upload-put p u id x bytes q y declared expires own f =
    let with_both : List ℕ → List (List ℕ) → Upload =
    λ parts segments. record { kind = u.kind; parts = parts; declared = declared; segments = segments; metadata = u.metadata; concat = u.concat; expires = expires } in
    let parts : parts_of u.kind (id ∷ []) ≡ parts_of u.kind (map {A = Piece} {B = ℕ} (λ x. x.origin) u.pieces) =
    ap (λ pieces. parts_of u.kind (map {A = Piece} {B = ℕ} (λ x. x.origin) pieces)) (sym own) in
    let segments : content_of q y ∷ [] ≡ (upload_content_of (upload_of p u) ++ bytes) ∷ [] =
    ap (λ (segment : List ℕ). segment ∷ []) (f.content ∙ ap (λ (front : List ℕ). front ++ bytes) (sym (content-own p u id x own))) in
    ap₂ with_both parts segments
