use Rattle.std.proofs.Common.{◌≡◌, ℕ, ◌+◌, ◌<◌, ◌≤◌, List, length, set, None, Some, Fits, w64, refl, ap, sym, subst, arith}
use Rattle.block_bodies.specs.Changes.{SameSizes}
use Rattle.upload_book.specs.BlockStore.{BlockStore, part_at, plain_in}
use Rattle.upload_book.specs.Book.{StoredBook, IsBook, plain_of}
use Rattle.upload_book.specs.contracts.book.Book.{the_view}
use Rattle.upload_book.specs.declared.ready.ReadyBack.{ReadyBack}
use Rattle.upload_book.specs.declared.settings.Numbers.{Numbers}
use Rattle.upload_book.specs.Expiries.{ends_of}
use Rattle.upload_book.specs.inside.FinalBack.{brought_in}
use Rattle.upload_book.specs.inside.Places.{MayKeep}
use Rattle.upload_book.specs.PlainBook.{tenant_book}
use Rattle.upload_book.specs.Ready.{IsReadyForBack}
use Rattle.upload_book.specs.snapshot.Restore.{sent_back, sent_in, upload_back}
use Rattle.upload_book.specs.TenantBook.{with_new}
use Rattle.upload_book.proofs.Restoring.FinalSteps.{IsBook-final, IsFinalBack, back, final-charged, final-follows, final-keep, final-renewed, final-taken, final_blocks, plain-final}
use Rattle.upload_book.proofs.Steps.BookSteps.{Follows, expiries-room_is, stored_tenants-settings}
use Rattle.upload_book.proofs.Expiries.ExpirySteps.{AreExpiries-renewed, IsRenewed, renewed-few, renewed-known, renewed-room}
use Rattle.upload_book.proofs.book.Book.put_final_back.Goals as goal

-- what was read of a book that is ready for a final upload
record IsRead (b w : StoredBook) (r : ReadyBack) (place : ℕ) : Type 0 where
  kept : IsBook b
  is : b ≡ w
  asked : IsReadyForBack w r
  at : place ≡ r.tenant

module _ {b w : StoredBook} {r : ReadyBack} {place : ℕ} (s : IsRead b w r place) where
  ready : IsReadyForBack b r
  ready = subst (λ (b : StoredBook). IsReadyForBack b r) (sym s.is) s.asked

  final : IsFinalBack b r.tenant r.upload
  final = record { kept = s.kept; within = (let there = ready.there in omega (arith, stored_tenants-settings b s.kept)); kind = ready.final; form = ready.form; none = ready.accepted }

  keep : MayKeep b.store place r
  keep = subst (λ (t : ℕ). MayKeep b.store t r) (sym s.at) (final-keep b r.tenant r.upload final r refl ready refl)

  taken : (n : ℕ) → n ≡ brought_in b.store.pool.block_size r.upload.segments → n ≡ final_blocks b r.tenant r.upload final
  taken n at = final-taken b r.tenant r.upload final n at

  -- the store has the upload
  follows : (st : BlockStore) → ((sent : List (ℕ × List ℕ)) → sent_back (sent_in (part_at b.store place).uploads) r.upload.segments ≡ Some sent → plain_in st ≡ set (plain_in b.store) place (with_new (part_at b.store place) (upload_back r.upload sent)))
      → SameSizes b.store.pool st.pool → st.room ≡ b.store.room → Follows b st r.tenant (with_new (tenant_book (plain_of b) r.tenant) (upload_back r.upload (back b r.tenant r.upload final).sent))
  follows st plain sizes room =
      final-follows b r.tenant r.upload final st
      (subst (λ (t : ℕ). (sent : List (ℕ × List ℕ)) → sent_back (sent_in (part_at b.store t).uploads) r.upload.segments ≡ Some sent → plain_in st ≡ set (plain_in b.store) t (with_new (part_at b.store t) (upload_back r.upload sent))) s.at plain)
      sizes room

  -- it gets its end
  renewed : IsRenewed (plain_of b) b.expiries.list r.tenant r.upload.id (with_new (tenant_book (plain_of b) r.tenant) (upload_back r.upload (back b r.tenant r.upload final).sent)) None r.upload.expires
  renewed = final-renewed b r.tenant r.upload final

-- what is charged in all fits
fits_taken : (charged taken blocks most : ℕ) → most < 18446744073709551616 → taken ≡ blocks → charged + blocks ≤ most → Fits w64 (charged + taken)
fits_taken charged taken blocks most fits same within = omega arith

pub put_back-requires : goal.put_back-requires
put_back-requires c =
    let s : IsRead (the_view c.self.inside) c.args.self.now c.args.ready c.from-place.result = record { kept = c.self.invariant; is = c.self.view_is; asked = c.requires; at = c.from-place.ensures } in
    keep s

pub set_end-requires-clause-known : goal.set_end-requires-clause-known
set_end-requires-clause-known c =
    let s : IsRead (the_view c.self.inside) c.args.self.now c.args.ready c.from-place.result = record { kept = c.self.invariant; is = c.self.view_is; asked = c.requires; at = c.from-place.ensures } in
    rw c.created-back.ensures (renewed-known (renewed s))

pub set_end-requires-clause-room : goal.set_end-requires-clause-room
set_end-requires-clause-room c =
    let b = the_view c.self.inside in
    let s : IsRead b c.args.self.now c.args.ready c.from-place.result = record { kept = c.self.invariant; is = c.self.view_is; asked = c.requires; at = c.from-place.ensures } in
    subst (λ n. length b.expiries.list ≤ n) (expiries-room_is b c.self.invariant) (renewed-few (renewed s))

pub set_end-requires-clause-more : goal.set_end-requires-clause-more
set_end-requires-clause-more c =
    let b = the_view c.self.inside in
    let s : IsRead b c.args.self.now c.args.ready c.from-place.result = record { kept = c.self.invariant; is = c.self.view_is; asked = c.requires; at = c.from-place.ensures } in
    rw c.created-back.ensures (λ none some. subst (λ n. length b.expiries.list < n) (expiries-room_is b c.self.invariant) (renewed-room (renewed s) none some))

pub overflow_add-self : goal.overflow_add-self
overflow_add-self c =
    let b = the_view c.self.inside in
    let s : IsRead b c.args.self.now c.args.ready c.from-place.result = record { kept = c.self.invariant; is = c.self.view_is; asked = c.requires; at = c.from-place.ensures } in
    fits_taken b.charged c.put_back.result (final_blocks b c.args.ready.tenant c.args.ready.upload (final s)) b.settings.numbers.last_total (subst (λ (n : Numbers). n.last_total < 18446744073709551616) c.numbers-in_range.ensures.value c.numbers-in_range.ensures.last_total) (taken s c.put_back.result c.put_back.ensures.taken) (final-charged b c.args.ready.tenant c.args.ready.upload (final s))

pub invariant_of-self : goal.invariant_of-self
invariant_of-self c =
    let b = the_view c.self.inside in
    let r = c.args.ready in
    let s : IsRead b c.args.self.now r c.from-place.result = record { kept = c.self.invariant; is = c.self.view_is; asked = c.requires; at = c.from-place.ensures } in
    let ends = rw c.created-back.ensures at c.set_end.ensures.ends in
    IsBook-final b r.tenant r.upload (final s) c.put_back.new.self (b.charged + c.put_back.result) c.set_end.new.self (follows s c.put_back.new.self c.put_back.ensures.plain c.put_back.ensures.sizes c.put_back.ensures.room_stays) (ap (λ (n : ℕ). b.charged + n) (taken s c.put_back.result c.put_back.ensures.taken))
    (record { expiries = AreExpiries-renewed (renewed s) c.set_end.new.self.list (ends (ends_of (plain_of b)) c.self.invariant.expiries (renewed s).was); room = c.set_end.ensures.room_stays })

pub returns : goal.returns
returns c =
    let b = the_view c.self.inside in
    let r = c.args.ready in
    let s : IsRead b c.args.self.now r c.from-place.result = record { kept = c.self.invariant; is = c.self.view_is; asked = c.requires; at = c.from-place.ensures } in
    rw (← c.self.view_is) (plain-final b r.tenant r.upload (final s) c.put_back.new.self (b.charged + c.put_back.result) (follows s c.put_back.new.self c.put_back.ensures.plain c.put_back.ensures.sizes c.put_back.ensures.room_stays) (ap (λ (n : ℕ). b.charged + n) (taken s c.put_back.result c.put_back.ensures.taken)))
