-- That a piece for which a book is ready is accepted, and what a piece leaves of the book.
use Rattle.std.proofs.Common.{◌≡◌, length, Option, None, Some, refl, ap, ◌∙◌}
use Rattle.std.proofs.Math.ListN.{length-set}
use Rattle.upload_book.specs.Book.{StoredBook, plain_of}
use Rattle.upload_book.specs.declared.ready.ReadyPiece.{ReadyPiece}
use Rattle.upload_book.specs.declared.ready.ReadyPiece.TheVariants.{Joined, Next, Own, Totals}
use Rattle.upload_book.specs.declared.refusal.Refusal.{Refusal}
use Rattle.upload_book.specs.declared.restored.Restored.{Restored}
use Rattle.upload_book.specs.declared.restored.Restored.TheVariants as piece
use Rattle.upload_book.specs.PlainBook.{PlainBook, tenant_book}
use Rattle.upload_book.specs.Ready.{IsReadyForPiece, piece_in}
use Rattle.upload_book.specs.snapshot.Restore.{book_after_piece, book_with, part_with, piece_refusal, sent_back, sent_in}
use Rattle.upload_book.specs.TenantBook.{with_next}
use Rattle.upload_book.proofs.Restoring.NextSteps.{after-none, after-refused}

-- a piece for which a book is ready is not refused
pub piece-accepted : (b : StoredBook) (r : ReadyPiece) → IsReadyForPiece b r → piece_refusal (plain_of b) (piece_in r) ≡ None
piece-accepted b (Own r) ready = ready.accepted
piece-accepted b (Joined r) ready = ready.accepted
piece-accepted b (Next r) ready = ready.accepted
piece-accepted b (Totals r) ready = ready

-- the settings stay,
with-settings : (b : PlainBook) (p : Restored) → (book_with b p).settings ≡ b.settings
with-settings b (piece.Upload tenant r) = refl
with-settings b (piece.Next tenant next) = refl
with-settings b (piece.Totals released) = refl

pub piece-settings : (b : PlainBook) (p : Restored) → (book_after_piece b p).settings ≡ b.settings
piece-settings b p = by (piece_refusal b p) refl where
  by : (why : Option Refusal) → piece_refusal b p ≡ why → (book_after_piece b p).settings ≡ b.settings
  by None none = ap (λ (b : PlainBook). b.settings) (after-none b p none) ∙ with-settings b p
  by (Some why) refused = ap (λ (b : PlainBook). b.settings) (after-refused b p why refused)

-- and so does the number of tenants
with-tenants : (b : PlainBook) (p : Restored) → length (book_with b p).tenants ≡ length b.tenants
with-tenants b (piece.Upload tenant r) = length-set b.tenants tenant (part_with (tenant_book b tenant) r (sent_back (sent_in (tenant_book b tenant).uploads) r.segments))
with-tenants b (piece.Next tenant next) = length-set b.tenants tenant (with_next (tenant_book b tenant) next)
with-tenants b (piece.Totals released) = refl

pub piece-tenants : (b : PlainBook) (p : Restored) → length (book_after_piece b p).tenants ≡ length b.tenants
piece-tenants b p = by (piece_refusal b p) refl where
  by : (why : Option Refusal) → piece_refusal b p ≡ why → length (book_after_piece b p).tenants ≡ length b.tenants
  by None none = ap (λ (b : PlainBook). length b.tenants) (after-none b p none) ∙ with-tenants b p
  by (Some why) refused = ap (λ (b : PlainBook). length b.tenants) (after-refused b p why refused)
