use Rattle.std.proofs.Common.{◌≡◌, ◌+◌, ◌<◌, ◌≤◌, ℕ, List, [], ◌∷◌, length, set, None, Some, Fits, w64, ap, ap₂, sym, ◌∙◌, subst, arith}
use Rattle.block_bodies.specs.Changes.{SameSizes}
use Rattle.upload_book.specs.Account.{blocks_between}
use Rattle.upload_book.specs.Book.{StoredBook, IsBook, plain_of}
use Rattle.upload_book.specs.contracts.book.Book.{the_view}
use Rattle.upload_book.specs.Create.{upload_from}
use Rattle.upload_book.specs.declared.ready.ReadyOwn.{ReadyOwn}
use Rattle.upload_book.specs.Expiries.{ends_of}
use Rattle.upload_book.specs.declared.settings.Numbers.{Numbers}
use Rattle.upload_book.specs.inside.Back.{new_of}
use Rattle.upload_book.specs.NewUpload.{NewUpload}
use Rattle.upload_book.specs.PlainBook.{tenant_book}
use Rattle.upload_book.specs.inside.Texts.{IsTextsFor}
use Rattle.upload_book.specs.Ready.{IsReadyForOwn}
use Rattle.upload_book.specs.snapshot.Restored.{RestoredUpload}
use Rattle.upload_book.specs.BlockStore.{BlockStore, part_at, plain_in, stored_tenant_at}
use Rattle.upload_book.specs.TenantBook.{TenantBook, with_new}
use Rattle.upload_book.proofs.Restoring.OwnBack.{own-form}
use Rattle.upload_book.proofs.Restoring.OwnSteps.{IsBook-own, IsOwnBack, own-charged, own-follows, own-id, own-next, own-renewed, own-room, own-room_blocks, own-taken, own_blocks, plain-own}
use Rattle.upload_book.proofs.Steps.BookSteps.{Follows, expiries-room_is, part-plain, stored_tenants-settings}
use Rattle.upload_book.proofs.Expiries.ExpirySteps.{AreExpiries-renewed, IsRenewed, renewed-few, renewed-known, renewed-room}
use Rattle.upload_book.proofs.book.Book.put_own.Goals as goal

-- what was read of a book that is ready for an upload of its own under the next id
record IsRead (b w : StoredBook) (r : ReadyOwn) (u : RestoredUpload) (place : ℕ) (read : List ℕ) (new : NewUpload) : Type 0 where
  kept : IsBook b
  is : b ≡ w
  asked : IsReadyForOwn w r
  upload : u ≡ r.upload
  at : place ≡ r.tenant
  read_is : (bytes : List ℕ) → r.upload.segments ≡ record { origin = r.upload.id; bytes = Some bytes } ∷ [] → read ≡ bytes
  new_is : new ≡ new_of r.upload

module _ {b w : StoredBook} {r : ReadyOwn} {u : RestoredUpload} {place : ℕ} {read : List ℕ} {new : NewUpload} (s : IsRead b w r u place read new) where
  ready : IsReadyForOwn b r
  ready = subst (λ (b : StoredBook). IsReadyForOwn b r) (sym s.is) s.asked

  own_read : (bytes : List ℕ) × (r.upload.segments ≡ record { origin = r.upload.id; bytes = Some bytes } ∷ [])
  own_read = own-form r.upload.kind r.upload.id r.upload.segments s.asked.own s.asked.form.segments

  abbrev bytes : List ℕ
  bytes = own_read.0

  same : read ≡ bytes
  same = s.read_is bytes own_read.1

  within : r.tenant < length b.store.stored_tenants
  within = let there = ready.there in omega (arith, stored_tenants-settings b s.kept)

  back : IsOwnBack b r.tenant r.upload bytes
  back = record { kept = s.kept; within = within; own = ready.own; form = ready.form; its = own_read.1; none = ready.accepted }

  next : (tenant_book (plain_of b) r.tenant).next ≡ r.upload.id
  next = own-next b r.tenant r.upload bytes back

  next_stored : (stored_tenant_at b.store place).next ≡ r.upload.id
  next_stored = ap (λ t. (part_at b.store t).next) s.at ∙ ap (λ (part : TenantBook). part.next) (sym (part-plain b r.tenant)) ∙ next

  -- the texts were taken for it
  texts_given : (room : ℕ) → room ≡ b.settings.numbers.uploads → IsTextsFor room r.texts new.metadata new.concat
  texts_given room is =
      subst (λ (n : NewUpload). IsTextsFor room r.texts n.metadata n.concat) (sym s.new_is)
      (subst (λ (room : ℕ). IsTextsFor room r.texts r.upload.metadata r.upload.concat) (sym is) ready.texts)

  id_read : u.id ≡ r.upload.id
  id_read = ap (λ (u : RestoredUpload). u.id) s.upload

  expires_read : u.expires ≡ r.upload.expires
  expires_read = ap (λ (u : RestoredUpload). u.expires) s.upload

  -- the store has the upload
  follows : (st : BlockStore) → plain_in st ≡ set (plain_in b.store) place (with_new (part_at b.store place) (upload_from new read u.expires)) → SameSizes b.store.pool st.pool → st.room ≡ b.store.room
      → Follows b st r.tenant (with_new (tenant_book (plain_of b) r.tenant) (upload_from (new_of r.upload) bytes r.upload.expires))
  follows st plain sizes room =
      own-follows b r.tenant r.upload bytes back st
      (plain ∙ ap (λ t. set (plain_in b.store) t (with_new (part_at b.store t) (upload_from new read u.expires))) s.at
      ∙ ap (λ new. set (plain_in b.store) r.tenant (with_new (part_at b.store r.tenant) (upload_from new read u.expires))) s.new_is
      ∙ ap₂ (λ bytes expires. set (plain_in b.store) r.tenant (with_new (part_at b.store r.tenant) (upload_from (new_of r.upload) bytes expires))) same expires_read)
      sizes room

  -- it gets its end
  renewed : IsRenewed (plain_of b) b.expiries.list r.tenant u.id (with_new (tenant_book (plain_of b) r.tenant) (upload_from (new_of r.upload) bytes r.upload.expires)) None u.expires
  renewed =
      let made = with_new (tenant_book (plain_of b) r.tenant) (upload_from (new_of r.upload) bytes r.upload.expires) in
      subst (λ id. IsRenewed (plain_of b) b.expiries.list r.tenant id made None u.expires) (sym id_read)
      (subst (λ end. IsRenewed (plain_of b) b.expiries.list r.tenant r.upload.id made None end) (sym expires_read) (own-renewed b r.tenant r.upload bytes back))

  taken : (n : ℕ) → n ≡ blocks_between b.store.pool.block_size 0 (length read) → n ≡ own_blocks b r.tenant r.upload bytes back
  taken n at = own-taken b r.tenant r.upload bytes back n (at ∙ ap (λ (bytes : List ℕ). blocks_between b.store.pool.block_size 0 (length bytes)) same)

-- what is charged in all fits
fits_taken : (charged taken blocks most : ℕ) → most < 18446744073709551616 → taken ≡ blocks → charged + blocks ≤ most → Fits w64 (charged + taken)
fits_taken charged taken blocks most fits same within = omega arith

pub create-requires-clause-tenant : goal.create-requires-clause-tenant
create-requires-clause-tenant c =
    let s : IsRead (the_view c.self.inside) c.args.self.now c.args.ready (record { id = c.upload.inside.id; kind = c.upload.inside.kind; declared = c.upload.inside.declared; segments = c.upload.inside.segments.now; metadata = c.upload.inside.metadata.now; concat = c.upload.inside.concat.now; expires = c.upload.inside.expires }) c.from-place.result c.own_bytes-bytes.result.now c.as_new-new.result =
    record { kept = c.self.invariant; is = c.self.view_is; asked = c.requires; upload = c.upload.view_is; at = c.from-place.ensures; read_is = c.own_bytes-bytes.ensures; new_is = c.as_new-new.ensures } in
    rw c.from-place.ensures (within s)

pub create-requires-clause-room : goal.create-requires-clause-room
create-requires-clause-room c =
    let s : IsRead (the_view c.self.inside) c.args.self.now c.args.ready (record { id = c.upload.inside.id; kind = c.upload.inside.kind; declared = c.upload.inside.declared; segments = c.upload.inside.segments.now; metadata = c.upload.inside.metadata.now; concat = c.upload.inside.concat.now; expires = c.upload.inside.expires }) c.from-place.result c.own_bytes-bytes.result.now c.as_new-new.result =
    record { kept = c.self.invariant; is = c.self.view_is; asked = c.requires; upload = c.upload.view_is; at = c.from-place.ensures; read_is = c.own_bytes-bytes.ensures; new_is = c.as_new-new.ensures } in
    rw c.from-place.ensures (own-room (the_view c.self.inside) c.args.ready.tenant c.args.ready.upload (bytes s) (back s))

pub create-requires-clause-id : goal.create-requires-clause-id
create-requires-clause-id c =
    let s : IsRead (the_view c.self.inside) c.args.self.now c.args.ready (record { id = c.upload.inside.id; kind = c.upload.inside.kind; declared = c.upload.inside.declared; segments = c.upload.inside.segments.now; metadata = c.upload.inside.metadata.now; concat = c.upload.inside.concat.now; expires = c.upload.inside.expires }) c.from-place.result c.own_bytes-bytes.result.now c.as_new-new.result =
    record { kept = c.self.invariant; is = c.self.view_is; asked = c.requires; upload = c.upload.view_is; at = c.from-place.ensures; read_is = c.own_bytes-bytes.ensures; new_is = c.as_new-new.ensures } in
    let id = own-id (the_view c.self.inside) c.args.ready.tenant c.args.ready.upload (bytes s) (back s) in
    omega (arith, id, next_stored s)

pub create-requires-clause-blocks : goal.create-requires-clause-blocks
create-requires-clause-blocks c =
    let s : IsRead (the_view c.self.inside) c.args.self.now c.args.ready (record { id = c.upload.inside.id; kind = c.upload.inside.kind; declared = c.upload.inside.declared; segments = c.upload.inside.segments.now; metadata = c.upload.inside.metadata.now; concat = c.upload.inside.concat.now; expires = c.upload.inside.expires }) c.from-place.result c.own_bytes-bytes.result.now c.as_new-new.result =
    record { kept = c.self.invariant; is = c.self.view_is; asked = c.requires; upload = c.upload.view_is; at = c.from-place.ensures; read_is = c.own_bytes-bytes.ensures; new_is = c.as_new-new.ensures } in
    rw (same s) (own-room_blocks (the_view c.self.inside) c.args.ready.tenant c.args.ready.upload (bytes s) (back s))

pub create-requires-clause-listed : goal.create-requires-clause-listed
create-requires-clause-listed c =
    let s : IsRead (the_view c.self.inside) c.args.self.now c.args.ready (record { id = c.upload.inside.id; kind = c.upload.inside.kind; declared = c.upload.inside.declared; segments = c.upload.inside.segments.now; metadata = c.upload.inside.metadata.now; concat = c.upload.inside.concat.now; expires = c.upload.inside.expires }) c.from-place.result c.own_bytes-bytes.result.now c.as_new-new.result =
    record { kept = c.self.invariant; is = c.self.view_is; asked = c.requires; upload = c.upload.view_is; at = c.from-place.ensures; read_is = c.own_bytes-bytes.ensures; new_is = c.as_new-new.ensures } in
    rw (same s) ((ready s).room (bytes s) (own_read s).1)

pub create-requires-clause-texts : goal.create-requires-clause-texts
create-requires-clause-texts c =
    let s : IsRead (the_view c.self.inside) c.args.self.now c.args.ready (record { id = c.upload.inside.id; kind = c.upload.inside.kind; declared = c.upload.inside.declared; segments = c.upload.inside.segments.now; metadata = c.upload.inside.metadata.now; concat = c.upload.inside.concat.now; expires = c.upload.inside.expires }) c.from-place.result c.own_bytes-bytes.result.now c.as_new-new.result =
    record { kept = c.self.invariant; is = c.self.view_is; asked = c.requires; upload = c.upload.view_is; at = c.from-place.ensures; read_is = c.own_bytes-bytes.ensures; new_is = c.as_new-new.ensures } in
    texts_given s (the_view c.self.inside).store.room c.self.invariant.room

pub overflow_add-self : goal.overflow_add-self
overflow_add-self c =
    let s : IsRead (the_view c.self.inside) c.args.self.now c.args.ready (record { id = c.upload.inside.id; kind = c.upload.inside.kind; declared = c.upload.inside.declared; segments = c.upload.inside.segments.now; metadata = c.upload.inside.metadata.now; concat = c.upload.inside.concat.now; expires = c.upload.inside.expires }) c.from-place.result c.own_bytes-bytes.result.now c.as_new-new.result =
    record { kept = c.self.invariant; is = c.self.view_is; asked = c.requires; upload = c.upload.view_is; at = c.from-place.ensures; read_is = c.own_bytes-bytes.ensures; new_is = c.as_new-new.ensures } in
    fits_taken _ _ _ _ (subst (λ (n : Numbers). n.last_total < 18446744073709551616) c.numbers-in_range.ensures.value c.numbers-in_range.ensures.last_total) (taken s c.create.result c.create.ensures.taken) (own-charged (the_view c.self.inside) c.args.ready.tenant c.args.ready.upload (bytes s) (back s))

pub set_end-requires-clause-known : goal.set_end-requires-clause-known
set_end-requires-clause-known c =
    let s : IsRead (the_view c.self.inside) c.args.self.now c.args.ready (record { id = c.upload.inside.id; kind = c.upload.inside.kind; declared = c.upload.inside.declared; segments = c.upload.inside.segments.now; metadata = c.upload.inside.metadata.now; concat = c.upload.inside.concat.now; expires = c.upload.inside.expires }) c.from-place.result c.own_bytes-bytes.result.now c.as_new-new.result =
    record { kept = c.self.invariant; is = c.self.view_is; asked = c.requires; upload = c.upload.view_is; at = c.from-place.ensures; read_is = c.own_bytes-bytes.ensures; new_is = c.as_new-new.ensures } in
    renewed-known (renewed s)

pub set_end-requires-clause-room : goal.set_end-requires-clause-room
set_end-requires-clause-room c =
    let s : IsRead (the_view c.self.inside) c.args.self.now c.args.ready (record { id = c.upload.inside.id; kind = c.upload.inside.kind; declared = c.upload.inside.declared; segments = c.upload.inside.segments.now; metadata = c.upload.inside.metadata.now; concat = c.upload.inside.concat.now; expires = c.upload.inside.expires }) c.from-place.result c.own_bytes-bytes.result.now c.as_new-new.result =
    record { kept = c.self.invariant; is = c.self.view_is; asked = c.requires; upload = c.upload.view_is; at = c.from-place.ensures; read_is = c.own_bytes-bytes.ensures; new_is = c.as_new-new.ensures } in
    let b = the_view c.self.inside in
    subst (λ n. length b.expiries.list ≤ n) (expiries-room_is b c.self.invariant) (renewed-few (renewed s))

pub set_end-requires-clause-more : goal.set_end-requires-clause-more
set_end-requires-clause-more c =
    let s : IsRead (the_view c.self.inside) c.args.self.now c.args.ready (record { id = c.upload.inside.id; kind = c.upload.inside.kind; declared = c.upload.inside.declared; segments = c.upload.inside.segments.now; metadata = c.upload.inside.metadata.now; concat = c.upload.inside.concat.now; expires = c.upload.inside.expires }) c.from-place.result c.own_bytes-bytes.result.now c.as_new-new.result =
    record { kept = c.self.invariant; is = c.self.view_is; asked = c.requires; upload = c.upload.view_is; at = c.from-place.ensures; read_is = c.own_bytes-bytes.ensures; new_is = c.as_new-new.ensures } in
    let b = the_view c.self.inside in
    λ none some. subst (λ n. length b.expiries.list < n) (expiries-room_is b c.self.invariant) (renewed-room (renewed s) none some)

pub invariant_of-self : goal.invariant_of-self
invariant_of-self c =
    let s : IsRead (the_view c.self.inside) c.args.self.now c.args.ready (record { id = c.upload.inside.id; kind = c.upload.inside.kind; declared = c.upload.inside.declared; segments = c.upload.inside.segments.now; metadata = c.upload.inside.metadata.now; concat = c.upload.inside.concat.now; expires = c.upload.inside.expires }) c.from-place.result c.own_bytes-bytes.result.now c.as_new-new.result =
    record { kept = c.self.invariant; is = c.self.view_is; asked = c.requires; upload = c.upload.view_is; at = c.from-place.ensures; read_is = c.own_bytes-bytes.ensures; new_is = c.as_new-new.ensures } in
    let b = the_view c.self.inside in
    IsBook-own b c.args.ready.tenant c.args.ready.upload (bytes s) (back s) c.create.new.self (b.charged + c.create.result) c.set_end.new.self
    (follows s c.create.new.self c.create.ensures.plain c.create.ensures.sizes c.create.ensures.room_stays) (ap (λ n. b.charged + n) (taken s c.create.result c.create.ensures.taken))
    (record { expiries = AreExpiries-renewed (renewed s) c.set_end.new.self.list (c.set_end.ensures.ends (ends_of (plain_of b)) c.self.invariant.expiries (renewed s).was); room = c.set_end.ensures.room_stays })

pub returns : goal.returns
returns c =
    let s : IsRead (the_view c.self.inside) c.args.self.now c.args.ready (record { id = c.upload.inside.id; kind = c.upload.inside.kind; declared = c.upload.inside.declared; segments = c.upload.inside.segments.now; metadata = c.upload.inside.metadata.now; concat = c.upload.inside.concat.now; expires = c.upload.inside.expires }) c.from-place.result c.own_bytes-bytes.result.now c.as_new-new.result =
    record { kept = c.self.invariant; is = c.self.view_is; asked = c.requires; upload = c.upload.view_is; at = c.from-place.ensures; read_is = c.own_bytes-bytes.ensures; new_is = c.as_new-new.ensures } in
    let b = the_view c.self.inside in
    rw (← c.self.view_is) (plain-own b c.args.ready.tenant c.args.ready.upload (bytes s) (back s) c.create.new.self (b.charged + c.create.result)
    (follows s c.create.new.self c.create.ensures.plain c.create.ensures.sizes c.create.ensures.room_stays) (ap (λ n. b.charged + n) (taken s c.create.result c.create.ensures.taken)))
