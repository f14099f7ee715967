-- A sweep of a book: what its store gives back, and the book after it.
use Rattle.std.proofs.Common.{◌≡◌, ℕ, ◌+◌, ◌<◌, ◌≤◌, ◌^◌, length, map, sym, ap, subst, ◌∙◌, arith}
use Rattle.std.specs.List.{All, sum_by}
use Rattle.std.proofs.lemmas.List.Sums.{sum_by-le}
use Rattle.block_bodies.specs.Changes.{SameSizes}
use Rattle.block_pool.specs.Blocks.{free_in, size_of}
use Rattle.upload_book.specs.Book.{IsBook, StoredBook, plain_of}
use Rattle.upload_book.specs.BlockStore.{BlockStore, plain_in}
use Rattle.upload_book.specs.Charge.{charge_in, charge_with}
use Rattle.upload_book.specs.Expiries.{AreExpiries, ends_of}
use Rattle.upload_book.specs.ExpiryList.{ends_after, AreExpiring, ExpiryList}
use Rattle.upload_book.specs.Lawful.{IsLawful}
use Rattle.upload_book.specs.PlainBook.{PlainBook}
use Rattle.upload_book.specs.Sweep.{book_after_sweep, part_after_sweep, sweep_answer, swept_blocks}
use Rattle.upload_book.specs.TenantBook.{TenantBook}
use Rattle.upload_book.proofs.Expiries.BookEnds.{ends-swept}
use Rattle.upload_book.proofs.Expiries.EndsLemmas.{AreExpiring-same}
use Rattle.upload_book.proofs.Heads.LineLemmas.{tenants-few}
use Rattle.upload_book.proofs.Lawful.LawfulFewer.{IsLawful-sweep, count_of, length-sweep, swept-total, total-fewer}
use Rattle.upload_book.proofs.Lawful.SettingsLemmas.{uploads-within}
use Rattle.upload_book.proofs.Steps.BookLemmas.{book_with}

-- the tenants have few uploads
pub uploads-few : (b : PlainBook) → IsLawful b → sum_by count_of b.tenants < 2 ^ 64
uploads-few b lawful =
    let each : All (λ (part : TenantBook). length part.uploads ≤ 65536) b.tenants =
    λ k d within. omega (arith, (lawful.tenants k d within).few, uploads-within b.settings lawful.settings) in
    omega (arith, sum_by-le count_of 65536 b.tenants each, tenants-few b lawful)

-- The uploads of a store that had expired have ended, and these were so many. Blocks are free where no tenant pays them.
pub record IsSwept (b : StoredBook) (store : BlockStore) (now uploads : ℕ) : Type 0 where
  pub plain : plain_in store ≡ map {A = TenantBook} {B = TenantBook} (part_after_sweep now) (plain_in b.store)
  pub ended : uploads + sum_by count_of (plain_in store) ≡ sum_by count_of (plain_in b.store)
  pub sizes : SameSizes b.store.pool store.pool
  pub room : store.room ≡ b.store.room
  pub in_use : free_in b.store.pool + sum_by (charge_with b.store.pool.block_size) (plain_in b.store) ≡ size_of b.store.pool
  pub in_use_after : free_in store.pool + sum_by (charge_with store.pool.block_size) (plain_in store) ≡ size_of store.pool

module _ (b : StoredBook) (store : BlockStore) (now uploads : ℕ) (is : IsBook b) (swept : IsSwept b store now uploads) where
  -- so many blocks are free as the sweep gives back
  pub swept-freed : free_in store.pool ≡ free_in b.store.pool + swept_blocks (plain_of b) now
  swept-freed =
      let before : free_in b.store.pool + sum_by (charge_in b.settings.numbers) (plain_in b.store) ≡ size_of b.store.pool =
      subst (λ size. free_in b.store.pool + sum_by (charge_with size) (plain_in b.store) ≡ size_of b.store.pool) is.size swept.in_use in
      let after : free_in store.pool + sum_by (charge_in b.settings.numbers) (map {A = TenantBook} {B = TenantBook} (part_after_sweep now) (plain_in b.store)) ≡ size_of store.pool =
      subst (λ parts. free_in store.pool + sum_by (charge_in b.settings.numbers) parts ≡ size_of store.pool) swept.plain
      (subst (λ size. free_in store.pool + sum_by (charge_with size) (plain_in store) ≡ size_of store.pool) (swept.sizes.bytes ∙ is.size) swept.in_use_after) in
      omega (arith, before, after, swept.sizes.blocks, swept-total b.settings.numbers now (plain_in b.store))

  -- what was released so far and what it gives back was charged
  pub swept-fits : b.released + swept_blocks (plain_of b) now ≤ b.charged
  swept-fits = omega (arith, swept-total b.settings.numbers now (plain_in b.store), is.lawful.totals)

  -- the sweep ends so many uploads
  pub swept-ended : uploads ≡ (sweep_answer (plain_of b) now).uploads
  swept-ended =
      let total = total-fewer count_of (part_after_sweep now) (length-sweep now) (plain_in b.store) in
      omega (arith, total, swept.ended, ap (sum_by count_of) swept.plain)

  -- the book after it
  abbrev swept_book : ExpiryList → StoredBook
  swept_book expiries = record {
    settings = b.settings;
    store = store;
    charged = b.charged;
    released = b.released + swept_blocks (plain_of b) now;
    expiries = expiries;
  }

  pub plain-swept : (expiries : ExpiryList) → plain_of (swept_book expiries) ≡ book_after_sweep (plain_of b) now
  plain-swept expiries = ap (λ tenants. book_with (plain_of b) tenants b.charged (b.released + swept_blocks (plain_of b) now)) swept.plain

  pub IsBook-swept : (expiries : ExpiryList) → AreExpiring (ends_after now (ends_of (plain_of b))) expiries.list → expiries.room ≡ b.expiries.room → IsBook (swept_book expiries)
  IsBook-swept expiries are room = record {
    lawful = subst IsLawful (sym (plain-swept expiries)) (IsLawful-sweep (plain_of b) now is.lawful);
    size = swept.sizes.bytes ∙ is.size;
    blocks = swept.sizes.blocks ∙ is.blocks;
    room = swept.room ∙ is.room;
    expiries = subst (λ p. AreExpiries p expiries.list) (sym (plain-swept expiries)) (AreExpiring-same _ (ends_of (book_after_sweep (plain_of b) now)) expiries.list (ends-swept (plain_of b) now is.lawful) are);
    entries = room ∙ is.entries;
  }
