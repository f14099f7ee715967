-- What a book over a store keeps where an upload of its own is put back.
use Rattle.std.proofs.Common.{◌≡◌, ℕ, ◌+◌, ◌-◌, ◌<◌, ◌≤◌, false, List, [], ◌∷◌, length, set, Option, None, Some, sym, ap, subst, ◌∙◌, arith}
use Rattle.std.specs.List.{sum_by}
use Rattle.std.proofs.Math.ListN.{length-map}
use Rattle.block_pool.specs.Blocks.{size_of}
use Rattle.block_bodies.specs.Changes.{SameSizes}
use Rattle.upload_book.specs.Account.{blocks_added, blocks_between}
use Rattle.upload_book.specs.Append.{is_final}
use Rattle.upload_book.specs.Book.{StoredBook, IsBook, plain_of}
use Rattle.upload_book.specs.Charge.{charge_in, charge_with}
use Rattle.upload_book.specs.Create.{upload_from}
use Rattle.upload_book.specs.declared.head_row.Kind.{Kind}
use Rattle.upload_book.specs.ExpiryList.{ExpiryList}
use Rattle.upload_book.specs.inside.Back.{new_of}
use Rattle.upload_book.specs.Lawful.{IsConcatText, IsLawful, IsTenantOf}
use Rattle.upload_book.specs.PlainBook.{tenant_book, with_tenant_book}
use Rattle.upload_book.specs.BlockStore.{BlockStore, plain_in, part_at, stored_tenant_at}
use Rattle.upload_book.specs.snapshot.Restore.{IsRestorable, book_after_piece, book_with, part_with, piece_refusal, sent_back, sent_in, upload_back, with_back}
use Rattle.upload_book.specs.declared.restored.Restored.TheVariants as piece
use Rattle.upload_book.specs.snapshot.Restored.{RestoredUpload}
use Rattle.upload_book.specs.Stored.{entry_of}
use Rattle.upload_book.specs.TenantBook.{TenantBook, with_new}
use Rattle.upload_book.specs.Upload.{Upload}
use Rattle.upload_book.proofs.Charge.RoomLemmas.{room-within}
use Rattle.upload_book.proofs.Expiries.BookEnds.{HasEnd-new}
use Rattle.upload_book.proofs.Expiries.ExpirySteps.{IsRenewed, ids-below, next-none}
use Rattle.upload_book.proofs.Lawful.LawfulCreate.{HasLawfulTexts}
use Rattle.upload_book.proofs.Lawful.SettingsLemmas.{last_id-within}
use Rattle.upload_book.proofs.Restoring.LawfulBack.{IsAcceptable, IsBack, IsBack-from_none, IsLawful-upload}
use Rattle.upload_book.proofs.Restoring.NextSteps.{after-none}
use Rattle.upload_book.proofs.Restoring.OwnBack.{charge-own, same-kind, sent-own, upload-own}
use Rattle.upload_book.proofs.Steps.BookLemmas.{IsTenantOf-book, book_with as book_at, with_tenant_book-more}
use Rattle.upload_book.proofs.Steps.BookSteps.{Follows, IsBook-follows, IsIndex, part-plain, part-within, plain-follows, stored_with}

-- an upload of its own that is put back, and is not refused
pub record IsOwnBack (b : StoredBook) (t : ℕ) (r : RestoredUpload) (bytes : List ℕ) : Type 0 where
  pub kept : IsBook b
  pub within : t < length b.store.stored_tenants
  pub own : is_final r.kind ≡ false
  pub form : IsRestorable r
  pub its : r.segments ≡ record { origin = r.id; bytes = Some bytes } ∷ []
  pub none : piece_refusal (plain_of b) (piece.Upload t r) ≡ None

module _ (b : StoredBook) (t : ℕ) (r : RestoredUpload) (bytes : List ℕ) (is : IsOwnBack b t r bytes) where
  abbrev part : TenantBook
  part = tenant_book (plain_of b) t

  abbrev made : Upload
  made = upload_from (new_of r) bytes r.expires

  -- how many blocks its bytes take
  abbrev pub own_blocks : ℕ
  own_blocks = blocks_added b.settings.numbers 0 (length bytes)

  sound : IsTenantOf b.settings.numbers part
  sound = IsTenantOf-book (plain_of b) t is.kept.lawful (part-within b t is.within)

  pub back : IsBack b.settings.numbers b.charged part r
  back = IsBack-from_none b.settings.numbers b.charged part r is.none

  pub own-next : part.next ≡ r.id
  own-next = back.next

  -- it brings its segment
  pub own-sent : sent_back (sent_in part.uploads) r.segments ≡ Some ((r.id, bytes) ∷ [])
  own-sent = sent-own b.settings.numbers b.charged part r bytes sound is.own is.its back.fresh

  sent-is : back.sent ≡ (r.id, bytes) ∷ []
  sent-is = let both : Some back.sent ≡ Some ((r.id, bytes) ∷ []) = sym back.is ∙ own-sent in cc

  pub upload-is : upload_back r back.sent ≡ made
  upload-is = ap (upload_back r) sent-is ∙ upload-own r bytes is.own

  can : IsAcceptable b.settings.numbers b.charged part r.id made
  can = subst (IsAcceptable b.settings.numbers b.charged part r.id) upload-is back.can

  pub own-pays : charge_in b.settings.numbers (with_back part r.id made) ≡ charge_in b.settings.numbers part + own_blocks
  own-pays = charge-own b.settings.numbers b.charged part r bytes sound is.own is.its back.fresh

  own-paid : charge_in b.settings.numbers part + own_blocks ≤ part.quota
  own-paid = omega (arith, own-pays, can.paid)

  -- the same by the size of the pool's blocks
  pub own-taken : (taken : ℕ) → taken ≡ blocks_between b.store.pool.block_size 0 (length bytes) → taken ≡ own_blocks
  own-taken taken at = at ∙ ap (λ size. blocks_between size 0 (length bytes)) is.kept.size

  -- there is room for them,
  pub own-room_blocks : sum_by (charge_with b.store.pool.block_size) (plain_in b.store) + blocks_between b.store.pool.block_size 0 (length bytes) ≤ size_of b.store.pool
  own-room_blocks =
      let room = room-within (plain_of b) t own_blocks is.kept.lawful (part-within b t is.within) own-paid in
      let same : sum_by (charge_with b.store.pool.block_size) (plain_in b.store) + blocks_between b.store.pool.block_size 0 (length bytes) ≡ sum_by (charge_in b.settings.numbers) (plain_in b.store) + own_blocks =
      ap (λ size. sum_by (charge_with size) (plain_in b.store) + blocks_between size 0 (length bytes)) is.kept.size in
      omega (arith, room, same, is.kept.blocks)

  -- what is charged stays within its bound,
  pub own-charged : b.charged + own_blocks ≤ b.settings.numbers.last_total
  own-charged = less _ _ _ _ _ own-pays can.unspent where
    less : (charged before after added last : ℕ) → after ≡ before + added → charged + (after - before) ≤ last → charged + added ≤ last
    less charged before after added last is fits = omega arith

  -- its id may be followed by another,
  pub own-id : r.id + 1 < 18446744073709551616
  own-id = omega (arith, can.last, last_id-within b.settings is.kept.lawful.settings)

  pub own-last : r.id ≤ b.settings.numbers.last_id
  own-last = can.last

  -- there is room for one more upload,
  pub own-room : length (stored_tenant_at b.store t).uploads < b.store.room
  own-room =
      let same : length (part_at b.store t).uploads ≡ length part.uploads = ap (λ (part : TenantBook). length part.uploads) (sym (part-plain b t)) in
      omega (arith, same, length-map (stored_tenant_at b.store t).uploads (entry_of b.store.pool), can.room, is.kept.room)

  -- and its texts are of their forms
  pub own-texts : HasLawfulTexts (new_of r)
  own-texts = record { metadata = is.form.metadata; concat = subst (λ (kind : Kind). IsConcatText kind r.concat) (sym (same-kind r.kind is.own)) is.form.concat }

  -- the book with it
  pub with-own : book_with (plain_of b) (piece.Upload t r) ≡ with_tenant_book (plain_of b) t (with_back part r.id made)
  with-own =
      ap (λ (found : Option (List (ℕ × List ℕ))). with_tenant_book (plain_of b) t (part_with part r found)) back.is
      ∙ ap (λ (u : Upload). with_tenant_book (plain_of b) t (with_back part r.id u)) upload-is

  own-lawful : IsLawful (with_tenant_book (plain_of b) t (with_back part r.id made))
  own-lawful = subst IsLawful with-own (IsLawful-upload (plain_of b) t r is.kept.lawful (part-within b t is.within) is.form is.none)

  -- as its id is the next one it is a new upload
  new-own : with_back part r.id made ≡ with_new part made
  new-own = ap (λ (id : ℕ). with_back part id made) (sym own-next)

  -- the store with it
  pub own-follows : (s : BlockStore) → plain_in s ≡ set (plain_in b.store) t (with_new (part_at b.store t) made) → SameSizes b.store.pool s.pool → s.room ≡ b.store.room → Follows b s t (with_new part made)
  own-follows s plain sizes room = record {
    plain = plain ∙ ap (λ part. set (plain_in b.store) t (with_new part made)) (sym (part-plain b t));
    sizes = sizes;
    room = room;
  }

  own-totals : (charged : ℕ) → charged ≡ b.charged + own_blocks → with_tenant_book (plain_of b) t (with_new part made) ≡ book_at (plain_of b) (set (plain_in b.store) t (with_new part made)) charged b.released
  own-totals charged at =
      with_tenant_book-more (plain_of b) t own_blocks (with_new part made) (ap (charge_in b.settings.numbers) (sym new-own) ∙ own-pays)
      ∙ ap (λ charged. book_at (plain_of b) (set (plain_in b.store) t (with_new part made)) charged b.released) (sym at)

  -- the upload gets its end
  pub own-renewed : IsRenewed (plain_of b) b.expiries.list t r.id (with_new part made) None r.expires
  own-renewed =
      let below = ids-below b.settings.numbers part sound in
      subst (λ (id : ℕ). IsRenewed (plain_of b) b.expiries.list t id (with_new part made) None r.expires) own-next
      (record {
        lawful = is.kept.lawful;
        are = is.kept.expiries;
        within = part-within b t is.within;
        was = next-none part below;
        has = HasEnd-new part made below;
        after = subst (λ (part : TenantBook). IsLawful (with_tenant_book (plain_of b) t part)) new-own own-lawful;
      })

  -- it makes a book
  pub IsBook-own : (s : BlockStore) (charged : ℕ) (e : ExpiryList) → Follows b s t (with_new part made) → charged ≡ b.charged + own_blocks → IsIndex b t (with_new part made) e → IsBook (record (stored_with b s charged b.released) { expiries = e })
  IsBook-own s charged e follows at index =
      IsBook-follows b s t (with_new part made) charged b.released e is.kept follows (own-totals charged at) own-renewed.after index

  -- which is the plain book with it
  pub plain-own : (s : BlockStore) (charged : ℕ) → Follows b s t (with_new part made) → charged ≡ b.charged + own_blocks → plain_of (stored_with b s charged b.released) ≡ book_after_piece (plain_of b) (piece.Upload t r)
  plain-own s charged follows at =
      plain-follows b s t (with_new part made) charged b.released follows (own-totals charged at)
      ∙ ap (with_tenant_book (plain_of b) t) (sym new-own) ∙ sym with-own ∙ sym (after-none (plain_of b) (piece.Upload t r) is.none)
