-- The pieces of an upload as they are kept.
use Rattle.std.specs.Prelude.{◌≡◌, ◌≢◌, ◌≤◌, ℕ, Bool, List, [], ◌∷◌, Contains, flat_map, length, Option, Some}
use Rattle.block_pool.specs.Blocks.{Blocks}
use Rattle.block_bodies.specs.Bodies.{Chain, IsBodyOf, content_of}
use Rattle.upload_book.specs.declared.head_row.Kind.TheVariants.{Final}
use Rattle.upload_book.specs.declared.pieces.Piece.{Piece}
use Rattle.upload_book.specs.declared.pieces.UnheldPiece.{UnheldPiece}
use Rattle.upload_book.specs.Create.{new_kind}
use Rattle.upload_book.specs.NewFinal.{NewFinal}
use Rattle.upload_book.specs.NewUpload.{NewUpload}
use Rattle.upload_book.specs.TenantBook.{Entry}
use Rattle.upload_book.specs.Stored.{StoredUpload, pieces_len}

-- the bytes of some pieces, one after another
abbrev pub bytes_of : Blocks → List Piece → List ℕ
bytes_of p pieces = flat_map (λ (x : Piece). content_of p x.chain) pieces

-- each piece is a body of the pool
abbrev pub AreBodies : Blocks → List Piece → Type 0
AreBodies p pieces = (x : Piece) → Contains pieces x → IsBodyOf p x.chain

-- what a piece will be once its blocks are held
abbrev pub as_piece : UnheldPiece → Piece
as_piece x = record { origin = x.origin; chain = x.chain }

-- what is kept of a body that has no bytes yet
abbrev pub no_chain : Chain
no_chain = record { blocks = []; len = 0; room = 0 }

-- the piece of an upload to which bytes are sent
abbrev pub own_chain : List Piece → Chain
own_chain [] = no_chain
own_chain (x ∷ pieces) = x.chain

-- an upload that is not final has one piece, whose bytes were sent to it
abbrev pub HasOwnPiece : Entry StoredUpload → Type 0
HasOwnPiece e = e.kept.kind ≢ Final → e.kept.pieces ≡ record { origin = e.id; chain = own_chain e.kept.pieces } ∷ []

-- none of its pieces was sent to a later upload
abbrev pub HasNoLaterPiece : Entry StoredUpload → Type 0
HasNoLaterPiece e = (x : Piece) → Contains e.kept.pieces x → x.origin ≤ e.id

-- each piece reads as as many bytes as it has
abbrev pub ReadsWhole : Blocks → List Piece → Type 0
ReadsWhole p pieces = (x : Piece) → Contains pieces x → length (content_of p x.chain) ≡ x.chain.len

-- a new upload with these bytes and this end, as it is kept under its id, its texts in a box or not
abbrev pub new_stored : NewUpload → ℕ → Chain → Option ℕ → Bool → StoredUpload
new_stored new id chain expires boxed = record {
  kind = new_kind new.partial;
  declared = new.length;
  pieces = record { origin = id; chain = chain } ∷ [];
  metadata = new.metadata;
  concat = new.concat;
  expires = expires;
  boxed = boxed;
}

-- a final upload of these pieces and with this end, as it is kept
abbrev pub final_of : Bool → NewFinal → List Piece → Option ℕ → StoredUpload
final_of boxed new pieces expires = record {
  kind = Final;
  declared = Some (pieces_len pieces);
  pieces = pieces;
  metadata = new.metadata;
  concat = new.concat;
  expires = expires;
  boxed = boxed;
}
