-- How the bytes of an upload are held: its kind, and its pieces.
use Rattle.std.specs.Prelude.{◌≡◌, ℕ, List, [], ◌∷◌, ⊤}
use Rattle.upload_book.specs.Create.{new_kind}
use Rattle.upload_book.specs.declared.head_row.Kind.{Kind}
use Rattle.upload_book.specs.declared.head_row.Kind.TheVariants.{Final}
use Rattle.upload_book.specs.declared.pieces.HeldBytes.{HeldBytes}
use Rattle.upload_book.specs.declared.pieces.HeldBytes.TheVariants.{Own, Joined}
use Rattle.upload_book.specs.declared.pieces.Piece.{Piece}
use Rattle.upload_book.specs.Stored.{pieces_len}

-- the kind of an upload whose bytes are held so
abbrev pub kind_of : HeldBytes → Kind
kind_of (Own partial body) = new_kind partial
kind_of (Joined len pieces) = Final

-- its pieces, where it has this id
abbrev pub pieces_in : ℕ → HeldBytes → List Piece
pieces_in id (Own partial body) = record { origin = id; chain = body } ∷ []
pieces_in id (Joined len pieces) = pieces.items

-- the number that is kept of the bytes of a final upload is theirs
abbrev pub CountsBytes : HeldBytes → Type 0
CountsBytes (Own partial body) = ⊤
CountsBytes (Joined len pieces) = len ≡ pieces_len pieces.items
