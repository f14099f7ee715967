-- What a book over a store keeps where a final upload is put back.
use Rattle.std.proofs.Common.{◌≡◌, ℕ, ◌+◌, ◌-◌, ◌<◌, ◌≤◌, true, List, length, get_or, set, Option, None, Some, unwrap_or, sym, ap, subst, ◌∙◌, arith}
use Rattle.std.specs.List.{sum_by}
use Rattle.std.proofs.Math.ListN.{length-map}
use Rattle.block_pool.specs.Blocks.{size_of}
use Rattle.block_bodies.specs.Changes.{SameSizes}
use Rattle.upload_book.specs.Book.{StoredBook, IsBook, plain_of}
use Rattle.upload_book.specs.Charge.{charge_in, charge_with}
use Rattle.upload_book.specs.declared.head_row.Kind.{Kind}
use Rattle.upload_book.specs.declared.head_row.Kind.TheVariants.{Final}
use Rattle.upload_book.specs.declared.ready.ReadyBack.{ReadyBack}
use Rattle.upload_book.specs.ExpiryList.{ExpiryList}
use Rattle.upload_book.specs.inside.FinalBack.{brought_in, sent_len}
use Rattle.upload_book.specs.inside.Texts.{IsTextsFor}
use Rattle.upload_book.specs.inside.Places.{MayKeep}
use Rattle.upload_book.specs.Lawful.{IsLawful, IsTenantOf}
use Rattle.upload_book.specs.PlainBook.{tenant_book, with_tenant_book}
use Rattle.upload_book.specs.BlockStore.{BlockStore, plain_in, part_at, stored_tenant_at}
use Rattle.upload_book.specs.Ready.{IsReadyForBack}
use Rattle.upload_book.specs.snapshot.Restore.{HasSegments, IsRestorable, book_after_piece, book_with, ends_rightly, part_with, piece_refusal, sent_back, sent_in, upload_back, with_back}
use Rattle.upload_book.specs.declared.restored.Restored.TheVariants as piece
use Rattle.upload_book.specs.snapshot.Restored.{RestoredUpload}
use Rattle.upload_book.specs.Stored.{entry_of}
use Rattle.upload_book.specs.TenantBook.{TenantBook, with_new}
use Rattle.upload_book.specs.Upload.{Upload, is_complete, offset_of}
use Rattle.upload_book.proofs.Charge.RoomLemmas.{room-within}
use Rattle.upload_book.proofs.Expiries.BookEnds.{HasEnd-new}
use Rattle.upload_book.proofs.Expiries.ExpirySteps.{IsRenewed, ids-below, next-none}
use Rattle.upload_book.proofs.Lawful.SettingsLemmas.{last_id-within, uploads-within}
use Rattle.upload_book.proofs.Restoring.FinalBack.{charge-final, complete-is, offset-back}
use Rattle.upload_book.proofs.Restoring.LawfulBack.{IsBack, IsBack-from_none, IsLawful-upload, final-complete}
use Rattle.upload_book.proofs.Restoring.NextSteps.{after-none}
use Rattle.upload_book.proofs.Steps.BookLemmas.{IsTenantOf-book, book_with as book_at, with_tenant_book-more}
use Rattle.upload_book.proofs.Steps.BookSteps.{Follows, IsBook-follows, IsIndex, part-plain, part-sound, part-within, plain-follows, stored_with}
use Rattle.upload_book.proofs.Store.AloneLemmas.{segments-few}

-- a final upload that is put back, and is not refused
pub record IsFinalBack (b : StoredBook) (t : ℕ) (r : RestoredUpload) : Type 0 where
  pub kept : IsBook b
  pub within : t < length b.store.stored_tenants
  pub kind : r.kind ≡ Final
  pub form : IsRestorable r
  pub none : piece_refusal (plain_of b) (piece.Upload t r) ≡ None

module _ (b : StoredBook) (t : ℕ) (r : RestoredUpload) (is : IsFinalBack b t r) where
  abbrev part : TenantBook
  part = tenant_book (plain_of b) t

  sound : IsTenantOf b.settings.numbers part
  sound = IsTenantOf-book (plain_of b) t is.kept.lawful (part-within b t is.within)

  pub back : IsBack b.settings.numbers b.charged part r
  back = IsBack-from_none b.settings.numbers b.charged part r is.none

  abbrev made : Upload
  made = upload_back r back.sent

  -- how many blocks it brings
  abbrev pub final_blocks : ℕ
  final_blocks = brought_in b.settings.numbers.block_size r.segments

  final-form : HasSegments Final r.id r.segments
  final-form = subst (λ (kind : Kind). HasSegments kind r.id r.segments) is.kind is.form.segments

  -- it is complete
  reached : is_complete made ≡ true
  reached = final-complete b.settings.numbers (is_complete made) r.expires (subst (λ (kind : Kind). ends_rightly b.settings.numbers kind (is_complete made) r.expires ≡ true) is.kind back.can.ends)

  whole : r.declared ≡ Some (sent_len back.sent)
  whole = complete-is r.declared (offset_of made) reached ∙ ap Some (offset-back b.settings.numbers b.charged part r back.sent sound is.kind final-form back.fresh back.is)

  -- so it is as long as it says
  pub final-len : unwrap_or r.declared 0 ≡ offset_of made
  final-len = ap (λ (declared : Option ℕ). unwrap_or declared 0) (complete-is r.declared (offset_of made) reached)

  pub final-pays : charge_in b.settings.numbers (with_back part r.id made) ≡ charge_in b.settings.numbers part + final_blocks
  final-pays = charge-final b.settings.numbers b.charged part r back.sent sound is.kind final-form back.fresh back.is

  final-paid : charge_in b.settings.numbers part + final_blocks ≤ part.quota
  final-paid = omega (arith, final-pays, back.can.paid)

  -- there is room for them
  final-room_blocks : sum_by (charge_with b.store.pool.block_size) (plain_in b.store) + brought_in b.store.pool.block_size r.segments ≤ size_of b.store.pool
  final-room_blocks =
      let room = room-within (plain_of b) t final_blocks is.kept.lawful (part-within b t is.within) final-paid in
      let same : sum_by (charge_with b.store.pool.block_size) (plain_in b.store) + brought_in b.store.pool.block_size r.segments ≡ sum_by (charge_in b.settings.numbers) (plain_in b.store) + final_blocks =
      ap (λ size. sum_by (charge_with size) (plain_in b.store) + brought_in size r.segments) is.kept.size in
      omega (arith, room, same, is.kept.blocks)

  -- what is charged stays within its bound
  pub final-charged : b.charged + final_blocks ≤ b.settings.numbers.last_total
  final-charged = less _ _ _ _ _ final-pays back.can.unspent where
    less : (charged before after added last : ℕ) → after ≡ before + added → charged + (after - before) ≤ last → charged + added ≤ last
    less charged before after added last is fits = omega arith

  -- the store may keep it
  pub final-keep : (ready : ReadyBack) → ready.upload ≡ r → IsReadyForBack b ready → ready.tenant ≡ t → MayKeep b.store t ready
  final-keep ready its asked at =
      let next : (stored_tenant_at b.store t).next ≡ r.id = ap (λ (part : TenantBook). part.next) (sym (part-plain b t)) ∙ back.next in
      let uploads : length (stored_tenant_at b.store t).uploads ≡ length part.uploads = sym (length-map (stored_tenant_at b.store t).uploads (entry_of b.store.pool)) ∙ ap (λ (part : TenantBook). length part.uploads) (sym (part-plain b t)) in
      let here : IsTenantOf b.settings.numbers (part_at b.store t) = part-sound b t is.kept is.within in
      let asked_at : IsReadyForBack b (record ready { tenant = t; upload = r }) = subst (λ (u : RestoredUpload). IsReadyForBack b (record ready { tenant = t; upload = u })) its (subst (λ (t : ℕ). IsReadyForBack b (record ready { tenant = t })) at asked) in
      subst (λ (u : RestoredUpload). MayKeep b.store t (record ready { upload = u })) (sym its) (record {
        tenant = is.within;
        room = omega (arith, uploads, back.can.room, is.kept.room);
        next = omega (arith, next, back.can.last, last_id-within b.settings is.kept.lawful.settings);
        few = record {
          uploads = omega (arith, here.few, uploads-within b.settings is.kept.lawful.settings);
          segments = λ k d l. segments-few (part_at b.store t) (get_or (part_at b.store t).uploads k d).kept (get_or (part_at b.store t).uploads k d).kept.kind (here.uploads k d l).kind;
        };
        form = is.form;
        final = is.kind;
        given = λ k d l. let older = (final-form.2 k d l).1 in omega (arith, older, next);
        segments = final-form.1;
        sent = back.sent;
        had = ap (λ (part : TenantBook). sent_back (sent_in part.uploads) r.segments) (sym (part-plain b t)) ∙ back.is;
        whole = whole;
        fits = final-room_blocks;
        rooms = asked_at.rooms;
        empty = asked_at.empty;
        listed = asked_at.listed;
        texts = subst (λ (room : ℕ). IsTextsFor room ready.texts r.metadata r.concat) (sym is.kept.room) asked_at.texts;
      })

  -- the book with it
  with-final : book_with (plain_of b) (piece.Upload t r) ≡ with_tenant_book (plain_of b) t (with_back part r.id made)
  with-final = ap (λ (found : Option (List (ℕ × List ℕ))). with_tenant_book (plain_of b) t (part_with part r found)) back.is

  -- as its id is the next one it is a new upload
  new-final : with_back part r.id made ≡ with_new part made
  new-final = ap (λ (id : ℕ). with_back part id made) (sym back.next)

  final-lawful : IsLawful (with_tenant_book (plain_of b) t (with_new part made))
  final-lawful =
      subst (λ (part : TenantBook). IsLawful (with_tenant_book (plain_of b) t part)) new-final
      (subst IsLawful with-final (IsLawful-upload (plain_of b) t r is.kept.lawful (part-within b t is.within) is.form is.none))

  -- the store with it
  pub final-follows : (s : BlockStore) → ((sent : List (ℕ × List ℕ)) → sent_back (sent_in (part_at b.store t).uploads) r.segments ≡ Some sent → plain_in s ≡ set (plain_in b.store) t (with_new (part_at b.store t) (upload_back r sent)))
      → SameSizes b.store.pool s.pool → s.room ≡ b.store.room → Follows b s t (with_new part made)
  final-follows s plain sizes room = record {
    plain = plain back.sent (ap (λ (part : TenantBook). sent_back (sent_in part.uploads) r.segments) (sym (part-plain b t)) ∙ back.is) ∙ ap (λ part. set (plain_in b.store) t (with_new part made)) (sym (part-plain b t));
    sizes = sizes;
    room = room;
  }

  -- so many blocks were taken for it
  pub final-taken : (taken : ℕ) → taken ≡ brought_in b.store.pool.block_size r.segments → taken ≡ final_blocks
  final-taken taken at = at ∙ ap (λ (size : ℕ). brought_in size r.segments) is.kept.size

  final-totals : (charged : ℕ) → charged ≡ b.charged + final_blocks → with_tenant_book (plain_of b) t (with_new part made) ≡ book_at (plain_of b) (set (plain_in b.store) t (with_new part made)) charged b.released
  final-totals charged at =
      with_tenant_book-more (plain_of b) t final_blocks (with_new part made) (ap (charge_in b.settings.numbers) (sym new-final) ∙ final-pays)
      ∙ ap (λ charged. book_at (plain_of b) (set (plain_in b.store) t (with_new part made)) charged b.released) (sym at)

  -- the upload gets its end
  pub final-renewed : IsRenewed (plain_of b) b.expiries.list t r.id (with_new part made) None r.expires
  final-renewed =
      let below = ids-below b.settings.numbers part sound in
      subst (λ (id : ℕ). IsRenewed (plain_of b) b.expiries.list t id (with_new part made) None r.expires) back.next
      (record {
        lawful = is.kept.lawful;
        are = is.kept.expiries;
        within = part-within b t is.within;
        was = next-none part below;
        has = HasEnd-new part made below;
        after = final-lawful;
      })

  -- it makes a book
  pub IsBook-final : (s : BlockStore) (charged : ℕ) (e : ExpiryList) → Follows b s t (with_new part made) → charged ≡ b.charged + final_blocks → IsIndex b t (with_new part made) e → IsBook (record (stored_with b s charged b.released) { expiries = e })
  IsBook-final s charged e follows at index =
      IsBook-follows b s t (with_new part made) charged b.released e is.kept follows (final-totals charged at) final-lawful index

  -- which is the plain book with it
  pub plain-final : (s : BlockStore) (charged : ℕ) → Follows b s t (with_new part made) → charged ≡ b.charged + final_blocks → plain_of (stored_with b s charged b.released) ≡ book_after_piece (plain_of b) (piece.Upload t r)
  plain-final s charged follows at =
      plain-follows b s t (with_new part made) charged b.released follows (final-totals charged at)
      ∙ ap (with_tenant_book (plain_of b) t) (sym new-final) ∙ sym with-final ∙ sym (after-none (plain_of b) (piece.Upload t r) is.none)
