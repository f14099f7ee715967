use Rattle.std.proofs.Common.{◌≡◌, ◌+◌, ◌<◌, ◌≤◌, ℕ, List, length, set, None, Fits, w64, ap, sym, ◌∙◌, subst, arith}
use Rattle.upload_book.specs.Book.{StoredBook, IsBook, plain_of}
use Rattle.upload_book.specs.contracts.book.Book.{the_view}
use Rattle.upload_book.specs.Create.{created_upload, upload_from}
use Rattle.upload_book.specs.declared.ready.ReadyUpload.{ReadyUpload}
use Rattle.upload_book.specs.Expiries.{ends_of}
use Rattle.upload_book.specs.FirstChunk.{FirstChunk, count_all_first}
use Rattle.upload_book.specs.declared.settings.Numbers.{Numbers}
use Rattle.upload_book.specs.PlainBook.{tenant_book}
use Rattle.upload_book.specs.inside.Texts.{IsTextsFor}
use Rattle.upload_book.specs.Ready.{IsReadyForUpload}
use Rattle.upload_book.specs.BlockStore.{BlockStore, part_at, plain_in}
use Rattle.upload_book.specs.TenantBook.{TenantBook, with_new}
use Rattle.upload_book.proofs.Steps.BookSteps.{expiries-room_is, part-plain, stored_tenants-settings}
use Rattle.upload_book.proofs.Expiries.ExpirySteps.{AreExpiries-renewed, IsRenewed, renewed-few, renewed-known, renewed-room}
use Rattle.upload_book.proofs.Charge.RoomLemmas.{fewer_room}
use Rattle.upload_book.proofs.Steps.CreateSteps.{IsCreation, IsBook-create, create-answer, create-blocks, create-charged, create-follows, create-next, create-renewed, create-room, create-taken, plain-create}
use Rattle.upload_book.proofs.book.Book.put_upload.Goals as goal

-- the book was ready
ready_as : (b w : StoredBook) (r : ReadyUpload) → b ≡ w → IsReadyForUpload w r → IsReadyForUpload b r
ready_as b w r is ready = subst (λ (b : StoredBook). IsReadyForUpload b r) (sym is) ready

-- a creation that is not refused
creation : (b w : StoredBook) (r : ReadyUpload) → IsBook b → b ≡ w → IsReadyForUpload w r → IsCreation b r.tenant r.new r.first
creation b w r kept is asked =
    let ready = ready_as b w r is asked in
    record { kept = kept; within = omega (arith, ready.there, stored_tenants-settings b kept); texts = record { metadata = ready.metadata; concat = ready.concat }; none = ready.accepted }

-- the store has the upload
stored : (b w : StoredBook) (r : ReadyUpload) (s : BlockStore) (place : ℕ) (bytes : List ℕ) → b ≡ w → IsReadyForUpload w r → place ≡ r.tenant → bytes ≡ r.first.bytes
    → plain_in s ≡ set (plain_in b.store) place (with_new (part_at b.store place) (upload_from r.new bytes r.expires))
    → plain_in s ≡ set (plain_in b.store) r.tenant (with_new (part_at b.store r.tenant) (created_upload b.settings.numbers r.new r.first.bytes r.now))
stored b w r s place bytes is asked at bytes_is plain =
    plain ∙ ap (λ t. set (plain_in b.store) t (with_new (part_at b.store t) (upload_from r.new bytes r.expires))) at
    ∙ ap (λ bytes. set (plain_in b.store) r.tenant (with_new (part_at b.store r.tenant) (upload_from r.new bytes r.expires))) bytes_is
    ∙ ap (λ expires. set (plain_in b.store) r.tenant (with_new (part_at b.store r.tenant) (upload_from r.new r.first.bytes expires))) (ready_as b w r is asked).expires

pub next-id-requires : goal.next-id-requires
next-id-requires c = rw c.from-place.ensures (creation (the_view c.self.inside) c.args.self.now c.args.ready c.self.invariant c.self.view_is c.requires).within

pub create-requires-clause-tenant : goal.create-requires-clause-tenant
create-requires-clause-tenant c = rw c.from-place.ensures (creation (the_view c.self.inside) c.args.self.now c.args.ready c.self.invariant c.self.view_is c.requires).within

pub create-requires-clause-room : goal.create-requires-clause-room
create-requires-clause-room c =
    let r = c.args.ready in
    rw c.from-place.ensures (create-room (the_view c.self.inside) r.tenant r.new r.first r.now (creation (the_view c.self.inside) c.args.self.now r c.self.invariant c.self.view_is c.requires))

pub create-requires-clause-id : goal.create-requires-clause-id
create-requires-clause-id c =
    let r = c.args.ready in
    rw c.from-place.ensures (create-next (the_view c.self.inside) r.tenant r.new r.first r.now (creation (the_view c.self.inside) c.args.self.now r c.self.invariant c.self.view_is c.requires))

pub create-requires-clause-blocks : goal.create-requires-clause-blocks
create-requires-clause-blocks c =
    let r = c.args.ready in
    let bytes : c.as_slice-bytes.result.now ≡ r.first.bytes = c.as_slice-bytes.ensures ∙ ap (λ (first : FirstChunk). first.bytes) c.first.view_is in
    rw bytes (create-blocks (the_view c.self.inside) r.tenant r.new r.first r.now (creation (the_view c.self.inside) c.args.self.now r c.self.invariant c.self.view_is c.requires))

pub create-requires-clause-listed : goal.create-requires-clause-listed
create-requires-clause-listed c =
    let b = the_view c.self.inside in
    let r = c.args.ready in
    let bytes : c.as_slice-bytes.result.now ≡ r.first.bytes = c.as_slice-bytes.ensures ∙ ap (λ (first : FirstChunk). first.bytes) c.first.view_is in
    let ready = ready_as b c.args.self.now r c.self.view_is c.requires in
    rw bytes (fewer_room b.store.pool r.body (length r.first.bytes) (count_all_first r.first) (omega arith) ready.room)

pub create-requires-clause-texts : goal.create-requires-clause-texts
create-requires-clause-texts c =
    let r = c.args.ready in
    subst (λ (room : ℕ). IsTextsFor room r.texts r.new.metadata r.new.concat) (sym c.self.invariant.room) (ready_as (the_view c.self.inside) c.args.self.now r c.self.view_is c.requires).texts

-- the upload gets its end under the id that was read
renewed_to : (b : StoredBook) (r : ReadyUpload) (place id : ℕ) → IsCreation b r.tenant r.new r.first → place ≡ r.tenant → id ≡ (part_at b.store place).next → IsReadyForUpload b r
    → IsRenewed (plain_of b) b.expiries.list r.tenant id (with_new (tenant_book (plain_of b) r.tenant) (created_upload b.settings.numbers r.new r.first.bytes r.now)) None r.expires
renewed_to b r place id is at next ready =
    let given : id ≡ (tenant_book (plain_of b) r.tenant).next = next ∙ ap (λ t. (part_at b.store t).next) at ∙ ap (λ (part : TenantBook). part.next) (sym (part-plain b r.tenant)) in
    let made = with_new (tenant_book (plain_of b) r.tenant) (created_upload b.settings.numbers r.new r.first.bytes r.now) in
    subst (λ id. IsRenewed (plain_of b) b.expiries.list r.tenant id made None r.expires) (sym given)
    (subst (λ end. IsRenewed (plain_of b) b.expiries.list r.tenant (tenant_book (plain_of b) r.tenant).next made None end) (sym ready.expires) (create-renewed b r.tenant r.new r.first r.now is))

pub set_end-requires-clause-known : goal.set_end-requires-clause-known
set_end-requires-clause-known c =
    let b = the_view c.self.inside in
    let r = c.args.ready in
    renewed-known (renewed_to b r c.from-place.result c.next-id.result (creation b c.args.self.now r c.self.invariant c.self.view_is c.requires) c.from-place.ensures c.next-id.ensures (ready_as b c.args.self.now r c.self.view_is c.requires))

pub set_end-requires-clause-room : goal.set_end-requires-clause-room
set_end-requires-clause-room c =
    let b = the_view c.self.inside in
    let r = c.args.ready in
    subst (λ n. length b.expiries.list ≤ n) (expiries-room_is b c.self.invariant)
    (renewed-few (renewed_to b r c.from-place.result c.next-id.result (creation b c.args.self.now r c.self.invariant c.self.view_is c.requires) c.from-place.ensures c.next-id.ensures (ready_as b c.args.self.now r c.self.view_is c.requires)))

pub set_end-requires-clause-more : goal.set_end-requires-clause-more
set_end-requires-clause-more c =
    let b = the_view c.self.inside in
    let r = c.args.ready in
    λ none some. subst (λ n. length b.expiries.list < n) (expiries-room_is b c.self.invariant)
    (renewed-room (renewed_to b r c.from-place.result c.next-id.result (creation b c.args.self.now r c.self.invariant c.self.view_is c.requires) c.from-place.ensures c.next-id.ensures (ready_as b c.args.self.now r c.self.view_is c.requires)) none some)

-- what is charged in all fits
fits_taken : (charged taken blocks most : ℕ) → most < 18446744073709551616 → taken ≡ blocks → charged + blocks ≤ most → Fits w64 (charged + taken)
fits_taken charged taken blocks most fits same within = omega arith

pub overflow_add-self : goal.overflow_add-self
overflow_add-self c =
    let b = the_view c.self.inside in
    let r = c.args.ready in
    let is = creation b c.args.self.now r c.self.invariant c.self.view_is c.requires in
    let bytes : c.as_slice-bytes.result.now ≡ r.first.bytes = c.as_slice-bytes.ensures ∙ ap (λ (first : FirstChunk). first.bytes) c.first.view_is in
    let taken = create-taken b r.tenant r.new r.first r.now is c.create.result (rw bytes at c.create.ensures.taken) in
    fits_taken _ _ _ _ (subst (λ (n : Numbers). n.last_total < 18446744073709551616) c.numbers-in_range.ensures.value c.numbers-in_range.ensures.last_total) taken (create-charged b r.tenant r.new r.first r.now is)

pub invariant_of-self : goal.invariant_of-self
invariant_of-self c =
    let b = the_view c.self.inside in
    let r = c.args.ready in
    let is = creation b c.args.self.now r c.self.invariant c.self.view_is c.requires in
    let bytes : c.as_slice-bytes.result.now ≡ r.first.bytes = c.as_slice-bytes.ensures ∙ ap (λ (first : FirstChunk). first.bytes) c.first.view_is in
    let taken = create-taken b r.tenant r.new r.first r.now is c.create.result (rw bytes at c.create.ensures.taken) in
    let follows = create-follows b r.tenant r.new r.first r.now is c.create.new.self (stored b c.args.self.now r c.create.new.self c.from-place.result c.as_slice-bytes.result.now c.self.view_is c.requires c.from-place.ensures bytes c.create.ensures.plain) c.create.ensures.sizes c.create.ensures.room_stays in
    let renewed = renewed_to b r c.from-place.result c.next-id.result is c.from-place.ensures c.next-id.ensures (ready_as b c.args.self.now r c.self.view_is c.requires) in
    IsBook-create b r.tenant r.new r.first r.now is c.create.new.self (b.charged + c.create.result) c.set_end.new.self follows (ap (λ n. b.charged + n) taken)
    (record { expiries = AreExpiries-renewed renewed c.set_end.new.self.list (c.set_end.ensures.ends (ends_of (plain_of b)) c.self.invariant.expiries renewed.was); room = c.set_end.ensures.room_stays })

pub returns-clause-answer : goal.returns-clause-answer
returns-clause-answer c =
    let b = the_view c.self.inside in
    let r = c.args.ready in
    let is = creation b c.args.self.now r c.self.invariant c.self.view_is c.requires in
    rw (← c.self.view_is) (create-answer b r.tenant r.new r.first r.now is c.next-id.result r.expires (c.next-id.ensures ∙ ap (λ t. (part_at b.store t).next) c.from-place.ensures) (ready_as b c.args.self.now r c.self.view_is c.requires).expires)

pub returns-clause-after : goal.returns-clause-after
returns-clause-after c =
    let b = the_view c.self.inside in
    let r = c.args.ready in
    let is = creation b c.args.self.now r c.self.invariant c.self.view_is c.requires in
    let bytes : c.as_slice-bytes.result.now ≡ r.first.bytes = c.as_slice-bytes.ensures ∙ ap (λ (first : FirstChunk). first.bytes) c.first.view_is in
    let taken = create-taken b r.tenant r.new r.first r.now is c.create.result (rw bytes at c.create.ensures.taken) in
    let follows = create-follows b r.tenant r.new r.first r.now is c.create.new.self (stored b c.args.self.now r c.create.new.self c.from-place.result c.as_slice-bytes.result.now c.self.view_is c.requires c.from-place.ensures bytes c.create.ensures.plain) c.create.ensures.sizes c.create.ensures.room_stays in
    rw (← c.self.view_is) (plain-create b r.tenant r.new r.first r.now is c.create.new.self (b.charged + c.create.result) follows (ap (λ n. b.charged + n) taken))
