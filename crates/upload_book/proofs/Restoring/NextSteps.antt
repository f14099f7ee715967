-- What a book over a store keeps where a tenant's next id is put back.
use Rattle.std.proofs.Common.{◌≡◌, ℕ, ◌<◌, ◌≤◌, length, set, Some, None, refl, inl, inr, sym, ap, subst, ◌∙◌, ltb}
use Rattle.std.proofs.lemmas.Bool.{ltb-false}
use Rattle.block_bodies.specs.Changes.{SameSizes}
use Rattle.upload_book.specs.Book.{StoredBook, IsBook, plain_of}
use Rattle.upload_book.specs.Charge.{charge_in}
use Rattle.upload_book.specs.declared.head_row.Name.{Name}
use Rattle.upload_book.specs.Expiries.{end_in, ends_of}
use Rattle.upload_book.specs.Lawful.{IsLawful}
use Rattle.upload_book.specs.PlainBook.{PlainBook, tenant_book, with_tenant_book}
use Rattle.upload_book.specs.BlockStore.{BlockStore, part_at, plain_in}
use Rattle.upload_book.specs.snapshot.Restore.{book_after_piece, book_with, piece_refusal}
use Rattle.upload_book.specs.declared.restored.Restored.TheVariants as piece
use Rattle.upload_book.specs.declared.restored.Restored.{Restored}
use Rattle.upload_book.specs.declared.refusal.Refusal.{Refusal}
use Rattle.upload_book.specs.TenantBook.{TenantBook, with_next}
use Rattle.upload_book.proofs.Expiries.EndsLemmas.{AreExpiring-same}
use Rattle.upload_book.proofs.Lawful.FinalLemmas.{part-after}
use Rattle.upload_book.proofs.Lawful.FirstRefusal.{test-passed}
use Rattle.upload_book.proofs.Restoring.LawfulBack.{IsLawful-next, charge-next}
use Rattle.upload_book.proofs.Steps.BookLemmas.{IsTenantOf-book, with_tenant_book-same}
use Rattle.upload_book.proofs.Steps.BookSteps.{Follows, IsBook-follows, part-plain, part-within, plain-follows, stored_with}

-- a piece that is not refused is put back
pub after-none : (b : PlainBook) (r : Restored) → piece_refusal b r ≡ None → book_after_piece b r ≡ book_with b r
after-none b r none = rw none refl

-- one that is refused leaves the book
pub after-refused : (b : PlainBook) (r : Restored) (why : Refusal) → piece_refusal b r ≡ Some why → book_after_piece b r ≡ b
after-refused b r why is = rw is refl

-- the ends stay where the uploads of a tenant stay
same-ends : (b : PlainBook) (t next : ℕ) (name : Name) → ends_of b name ≡ ends_of (with_tenant_book b t (with_next (tenant_book b t) next)) name
same-ends b t next name = elim (part-after b t name.tenant (with_next (tenant_book b t) next)) [
  | inl same ↦ ap (λ (part : TenantBook). end_in part name.id) (sym same)
  | inr its ↦ ap (λ t. end_in (tenant_book b t) name.id) its.0 ∙ ap (λ (part : TenantBook). end_in part name.id) (sym its.1)
]

module _ (b : StoredBook) (t next : ℕ) (kept : IsBook b) (within : t < length b.store.stored_tenants) (none : piece_refusal (plain_of b) (piece.Next t next) ≡ None) where
  abbrev part : TenantBook
  part = tenant_book (plain_of b) t

  -- no id is given again
  pub next-more : part.next ≤ next
  next-more = ltb-false next part.next (test-passed (ltb next part.next) _ _ none).0

  pays : charge_in b.settings.numbers (with_next part next) ≡ charge_in b.settings.numbers part
  pays = charge-next b.settings.numbers part next next-more (IsTenantOf-book (plain_of b) t kept.lawful (part-within b t within))

  lawful : IsLawful (with_tenant_book (plain_of b) t (with_next part next))
  lawful = IsLawful-next (plain_of b) t next kept.lawful (part-within b t within) none

  -- the store with it
  abbrev pub IsNumbered : BlockStore → Type 0
  IsNumbered s = (plain_in s ≡ set (plain_in b.store) t (with_next (part_at b.store t) next)) × (s.pool ≡ b.store.pool) × (s.room ≡ b.store.room)

  follows : (s : BlockStore) → IsNumbered s → Follows b s t (with_next part next)
  follows s is = record {
    plain = is.0 ∙ ap (λ part. set (plain_in b.store) t (with_next part next)) (sym (part-plain b t));
    sizes = subst (SameSizes b.store.pool) (sym is.1) (record { blocks = refl; bytes = refl });
    room = is.2;
  }

  -- makes a book
  pub IsBook-next : (s : BlockStore) → IsNumbered s → IsBook (record (stored_with b s b.charged b.released) { expiries = b.expiries })
  IsBook-next s is =
      IsBook-follows b s t (with_next part next) b.charged b.released b.expiries kept (follows s is) (with_tenant_book-same (plain_of b) t (with_next part next) pays) lawful
      (record { expiries = AreExpiring-same (ends_of (plain_of b)) (ends_of (with_tenant_book (plain_of b) t (with_next part next))) b.expiries.list (same-ends (plain_of b) t next) kept.expiries; room = refl })

  -- which is the one with the next id put back
  pub plain-numbered : (s : BlockStore) → IsNumbered s → plain_of (stored_with b s b.charged b.released) ≡ book_after_piece (plain_of b) (piece.Next t next)
  plain-numbered s is =
      plain-follows b s t (with_next part next) b.charged b.released (follows s is) (with_tenant_book-same (plain_of b) t (with_next part next) pays)
      ∙ sym (after-none (plain_of b) (piece.Next t next) none)
