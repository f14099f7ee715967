-- Why a piece is not put back.
use Rattle.std.specs.Prelude.{Some}
use Rattle.upload_book.specs.declared.refusal.Refusal.{Refusal}
use Rattle.upload_book.specs.declared.refusal.Refusal.TheVariants.{Memory}
use Rattle.upload_book.specs.declared.restored.Restored.{Restored}
use Rattle.upload_book.specs.PlainBook.{PlainBook}
use Rattle.upload_book.specs.Refusal.{IsAnswer}
use Rattle.upload_book.specs.snapshot.Restore.{MayLackPiece, piece_refusal}

-- the plain book refuses it for this, or memory lacks for one that it accepts
abbrev pub IsPieceRefusal : PlainBook → Restored → Refusal → Type 0
IsPieceRefusal b piece why = IsAnswer (piece_refusal b piece) (MayLackPiece b piece) (Some Memory) (Some why)
