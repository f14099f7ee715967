use Rattle.std.proofs.Common.{◌≡◌, ℕ, ◌+◌, ◌<◌, ◌≤◌, Bool, true, false, eqb, List, [], length, Fits, w64, ap, sym, subst, ◌∙◌, arith}
use Rattle.std.proofs.lemmas.Bool.Decides.{nat_tests}
use Rattle.std.proofs.lemmas.List.{nil_from_length}
use Rattle.block_pool.specs.Blocks.{Blocks, size_of}
use Rattle.block_bodies.specs.Bodies.{HasRoom}
use Rattle.upload_book.specs.Book.{StoredBook, IsBook, plain_of}
use Rattle.upload_book.specs.Chunk.{Chunk, count_all}
use Rattle.upload_book.specs.contracts.book.Book.{the_view}
use Rattle.upload_book.specs.declared.ready.ReadyChunk.{ReadyChunk}
use Rattle.upload_book.specs.declared.settings.Numbers.{Numbers}
use Rattle.upload_book.specs.declared.progress.Progress.{Progress}
use Rattle.upload_book.specs.Append.{upload_with}
use Rattle.upload_book.specs.Expiries.{ends_of}
use Rattle.upload_book.specs.ExpiryList.{with_end, AreExpiring, Ends, ExpiryList}
use Rattle.upload_book.specs.PlainBook.{tenant_book}
use Rattle.upload_book.specs.Ready.{IsReadyForChunk}
use Rattle.upload_book.specs.TenantBook.{with_changed}
use Rattle.upload_book.specs.Account.{blocks_between}
use Rattle.upload_book.specs.BlockStore.{entry_at, upload_at}
use Rattle.upload_book.specs.Upload.{offset_of}
use Rattle.upload_book.specs.inside.Pieces.{own_chain}
use Rattle.upload_book.proofs.Charge.RoomLemmas.{fewer_room}
use Rattle.upload_book.proofs.Steps.BookSteps.{IsIndex, expiries-room_is, stored_tenants-settings}
use Rattle.upload_book.proofs.Expiries.ExpirySteps.{AreExpiries-renewed, IsRenewed, renewed-few, renewed-known, renewed-room}
use Rattle.upload_book.proofs.Steps.PatchSteps.{IsBook-patch, patch-alone, patch-answer, patch-charged, patch-follows, patch-free, patch-renewed, patch-room, patch-taken, plain-patch}
use Rattle.upload_book.proofs.book.Book.put_chunk.Goals as goal

-- the test on the bytes tells that there are none,
no_bytes : (bytes : List ℕ) (empty : Bool) → empty ≡ eqb (length bytes) 0 → empty ≡ true → bytes ≡ []
no_bytes bytes empty is holds = nil_from_length bytes (grind (arith, nat_tests))

-- or that there are some
some_bytes : (bytes : List ℕ) (empty : Bool) → empty ≡ eqb (length bytes) 0 → empty ≡ false → 0 < length bytes
some_bytes bytes empty is fails = grind (arith, nat_tests)

-- the book was ready
ready_as : (b w : StoredBook) (r : ReadyChunk) → b ≡ w → IsReadyForChunk w r → IsReadyForChunk b r
ready_as b w r is ready = subst (λ (b : StoredBook). IsReadyForChunk b r) (sym is) ready

-- the tenant has a stored part
stored_tenant_there : (b : StoredBook) (r : ReadyChunk) → IsBook b → IsReadyForChunk b r → r.name.tenant < length b.store.stored_tenants
stored_tenant_there b r kept ready = omega (arith, ready.there, stored_tenants-settings b kept)

-- the upload gets the end after the PATCH
renewed_to : (b : StoredBook) (r : ReadyChunk) → IsBook b → IsReadyForChunk b r
    → IsRenewed (plain_of b) b.expiries.list r.name.tenant r.name.id (with_changed (tenant_book (plain_of b) r.name.tenant) r.name.id (upload_with b.settings.numbers (upload_at b.store r.name.tenant r.place) r.chunk r.now)) r.expires r.after.expires
renewed_to b r kept ready =
    let changed = with_changed (tenant_book (plain_of b) r.name.tenant) r.name.id (upload_with b.settings.numbers (upload_at b.store r.name.tenant r.place) r.chunk r.now) in
    subst (λ before. IsRenewed (plain_of b) b.expiries.list r.name.tenant r.name.id changed before r.after.expires) (sym ready.expires)
    (subst (λ (after : Progress). IsRenewed (plain_of b) b.expiries.list r.name.tenant r.name.id changed (upload_at b.store r.name.tenant r.place).expires after.expires) (sym ready.after)
    (patch-renewed b r.name.tenant r.name.id r.place r.now r.chunk kept (stored_tenant_there b r kept ready) ready.seen ready.accepted))

pub set_end-requires-clause-known : goal.set_end-requires-clause-known
set_end-requires-clause-known c =
    let b = the_view c.self.inside in
    renewed-known (renewed_to b c.args.ready c.self.invariant (ready_as b c.args.self.now c.args.ready c.self.view_is c.requires))

pub set_end-requires-clause-room : goal.set_end-requires-clause-room
set_end-requires-clause-room c =
    let b = the_view c.self.inside in
    subst (λ n. length b.expiries.list ≤ n) (expiries-room_is b c.self.invariant)
    (renewed-few (renewed_to b c.args.ready c.self.invariant (ready_as b c.args.self.now c.args.ready c.self.view_is c.requires)))

pub set_end-requires-clause-more : goal.set_end-requires-clause-more
set_end-requires-clause-more c =
    let b = the_view c.self.inside in
    λ none some. subst (λ n. length b.expiries.list < n) (expiries-room_is b c.self.invariant)
    (renewed-room (renewed_to b c.args.ready c.self.invariant (ready_as b c.args.self.now c.args.ready c.self.view_is c.requires)) none some)

-- the list is that of the book after the PATCH
index : (b : StoredBook) (r : ReadyChunk) (e : ExpiryList) → IsBook b → IsReadyForChunk b r
    → ((ends : Ends) → AreExpiring ends b.expiries.list → ends r.name ≡ r.expires → AreExpiring (with_end ends r.name r.after.expires) e.list) → e.room ≡ b.expiries.room
    → IsIndex b r.name.tenant (with_changed (tenant_book (plain_of b) r.name.tenant) r.name.id (upload_with b.settings.numbers (upload_at b.store r.name.tenant r.place) r.chunk r.now)) e
index b r e kept ready ends room =
    let renewed = renewed_to b r kept ready in
    record { expiries = AreExpiries-renewed renewed e.list (ends (ends_of (plain_of b)) kept.expiries renewed.was); room = room }

pub invariant_of-self : goal.invariant_of-self
invariant_of-self c =
    let b = the_view c.self.inside in
    let r = c.args.ready in
    let ready = ready_as b c.args.self.now r c.self.view_is c.requires in
    let within = stored_tenant_there b r c.self.invariant ready in
    let bytes : c.as_slice-bytes.result.now ≡ r.chunk.bytes = c.as_slice-bytes.ensures ∙ ap (λ (chunk : Chunk). chunk.bytes) c.chunk.view_is in
    let empty : [] ≡ r.chunk.bytes = sym (no_bytes c.as_slice-bytes.result.now c.is_empty.result c.is_empty.ensures c.if-is_empty.true) ∙ bytes in
    let follows = patch-follows b r.name.tenant r.name.id r.place r.now r.chunk c.self.invariant within ready.seen ready.accepted c.renew.new.self [] r.after empty ready.after (rw c.from-tenant.ensures at c.renew.ensures.plain) (record { blocks = ap size_of c.renew.ensures.pool; bytes = ap (λ (p : Blocks). p.block_size) c.renew.ensures.pool }) c.renew.ensures.room_stays in
    IsBook-patch b r.name.tenant r.name.id r.place r.now r.chunk c.self.invariant within ready.seen ready.accepted c.renew.new.self b.charged c.set_end.new.self follows (patch-free b r.name.tenant r.name.id r.place r.now r.chunk c.self.invariant within ready.seen ready.accepted (sym empty)) (index b r c.set_end.new.self c.self.invariant ready c.set_end.ensures.ends c.set_end.ensures.room_stays)

pub returns-then-is_empty-clause-answer : goal.returns-then-is_empty-clause-answer
returns-then-is_empty-clause-answer c =
    let b = the_view c.self.inside in
    let r = c.args.ready in
    let ready = ready_as b c.args.self.now r c.self.view_is c.requires in
    rw (← c.self.view_is) (patch-answer b r.name.tenant r.name.id r.place r.now r.chunk c.self.invariant (stored_tenant_there b r c.self.invariant ready) ready.seen ready.accepted r.after ready.after)

pub returns-then-is_empty-clause-after : goal.returns-then-is_empty-clause-after
returns-then-is_empty-clause-after c =
    let b = the_view c.self.inside in
    let r = c.args.ready in
    let ready = ready_as b c.args.self.now r c.self.view_is c.requires in
    let within = stored_tenant_there b r c.self.invariant ready in
    let bytes : c.as_slice-bytes.result.now ≡ r.chunk.bytes = c.as_slice-bytes.ensures ∙ ap (λ (chunk : Chunk). chunk.bytes) c.chunk.view_is in
    let empty : [] ≡ r.chunk.bytes = sym (no_bytes c.as_slice-bytes.result.now c.is_empty.result c.is_empty.ensures c.if-is_empty.true) ∙ bytes in
    let follows = patch-follows b r.name.tenant r.name.id r.place r.now r.chunk c.self.invariant within ready.seen ready.accepted c.renew.new.self [] r.after empty ready.after (rw c.from-tenant.ensures at c.renew.ensures.plain) (record { blocks = ap size_of c.renew.ensures.pool; bytes = ap (λ (p : Blocks). p.block_size) c.renew.ensures.pool }) c.renew.ensures.room_stays in
    rw (← c.self.view_is) (plain-patch b r.name.tenant r.name.id r.place r.now r.chunk c.self.invariant within ready.seen ready.accepted c.renew.new.self b.charged follows (patch-free b r.name.tenant r.name.id r.place r.now r.chunk c.self.invariant within ready.seen ready.accepted (sym empty)))

pub put-requires-clause-alone : goal.put-requires-clause-alone
put-requires-clause-alone c =
    let b = the_view c.self.inside in
    let r = c.args.ready in
    let ready = ready_as b c.args.self.now r c.self.view_is c.requires in
    let bytes : c.as_slice-bytes.result.now ≡ r.chunk.bytes = c.as_slice-bytes.ensures ∙ ap (λ (chunk : Chunk). chunk.bytes) c.chunk.view_is in
    let some : 0 < length r.chunk.bytes = subst (λ (bytes : List ℕ). 0 < length bytes) bytes (some_bytes c.as_slice-bytes.result.now c.is_empty.result c.is_empty.ensures c.if-is_empty.false) in
    rw c.from-tenant.ensures (patch-alone b r.name.tenant r.name.id r.place r.now r.chunk c.self.invariant (stored_tenant_there b r c.self.invariant ready) ready.seen ready.accepted (omega (arith, some)))

pub put-requires-clause-room : goal.put-requires-clause-room
put-requires-clause-room c =
    let b = the_view c.self.inside in
    let r = c.args.ready in
    let ready = ready_as b c.args.self.now r c.self.view_is c.requires in
    let bytes : c.as_slice-bytes.result.now ≡ r.chunk.bytes = c.as_slice-bytes.ensures ∙ ap (λ (chunk : Chunk). chunk.bytes) c.chunk.view_is in
    rw (c.from-tenant.ensures, bytes) (patch-room b r.name.tenant r.name.id r.place r.now r.chunk c.self.invariant (stored_tenant_there b r c.self.invariant ready) ready.seen ready.accepted)

pub put-requires-clause-listed : goal.put-requires-clause-listed
put-requires-clause-listed c =
    let b = the_view c.self.inside in
    let r = c.args.ready in
    let ready = ready_as b c.args.self.now r c.self.view_is c.requires in
    let bytes : c.as_slice-bytes.result.now ≡ r.chunk.bytes = c.as_slice-bytes.ensures ∙ ap (λ (chunk : Chunk). chunk.bytes) c.chunk.view_is in
    let some : 0 < length r.chunk.bytes = subst (λ (bytes : List ℕ). 0 < length bytes) bytes (some_bytes c.as_slice-bytes.result.now c.is_empty.result c.is_empty.ensures c.if-is_empty.false) in
    let room = fewer_room b.store.pool (own_chain (entry_at b.store r.name.tenant r.place).kept.pieces) (length r.chunk.bytes) (count_all r.chunk) (omega arith) (ready.room (omega (arith, some))) in
    rw c.from-tenant.ensures (subst (λ (bytes : List ℕ). HasRoom b.store.pool (own_chain (entry_at b.store r.name.tenant r.place).kept.pieces) (length bytes)) (sym bytes) room)

-- what is charged in all fits
fits_taken : (charged taken blocks most : ℕ) → most < 18446744073709551616 → taken ≡ blocks → charged + blocks ≤ most → Fits w64 (charged + taken)
fits_taken charged taken blocks most fits same within = omega arith

pub overflow_add-self : goal.overflow_add-self
overflow_add-self c =
    let b = the_view c.self.inside in
    let r = c.args.ready in
    let ready = ready_as b c.args.self.now r c.self.view_is c.requires in
    let bytes : c.as_slice-bytes.result.now ≡ r.chunk.bytes = c.as_slice-bytes.ensures ∙ ap (λ (chunk : Chunk). chunk.bytes) c.chunk.view_is in
    fits_taken b.charged c.put.result (blocks_between b.store.pool.block_size (offset_of (upload_at b.store r.name.tenant r.place)) (length r.chunk.bytes)) b.settings.numbers.last_total (subst (λ (n : Numbers). n.last_total < 18446744073709551616) c.numbers-in_range.ensures.value c.numbers-in_range.ensures.last_total) (rw (c.from-tenant.ensures, bytes) at c.put.ensures.taken)
    (patch-charged b r.name.tenant r.name.id r.place r.now r.chunk c.self.invariant (stored_tenant_there b r c.self.invariant ready) ready.seen ready.accepted)

pub invariant_of-self-2 : goal.invariant_of-self-2
invariant_of-self-2 c =
    let b = the_view c.self.inside in
    let r = c.args.ready in
    let ready = ready_as b c.args.self.now r c.self.view_is c.requires in
    let within = stored_tenant_there b r c.self.invariant ready in
    let bytes : c.as_slice-bytes.result.now ≡ r.chunk.bytes = c.as_slice-bytes.ensures ∙ ap (λ (chunk : Chunk). chunk.bytes) c.chunk.view_is in
    let follows = patch-follows b r.name.tenant r.name.id r.place r.now r.chunk c.self.invariant within ready.seen ready.accepted c.put.new.self c.as_slice-bytes.result.now r.after bytes ready.after (rw c.from-tenant.ensures at c.put.ensures.plain) c.put.ensures.sizes c.put.ensures.room_stays in
    let charged = ap (λ n. b.charged + n) (patch-taken b r.name.tenant r.name.id r.place r.now r.chunk c.self.invariant within ready.seen ready.accepted c.from-tenant.result c.put.result c.as_slice-bytes.result.now c.from-tenant.ensures bytes c.put.ensures.taken) in
    IsBook-patch b r.name.tenant r.name.id r.place r.now r.chunk c.self.invariant within ready.seen ready.accepted c.put.new.self (b.charged + c.put.result) c.set_end.new.self follows charged (index b r c.set_end.new.self c.self.invariant ready c.set_end.ensures.ends c.set_end.ensures.room_stays)

pub returns-clause-answer : goal.returns-clause-answer
returns-clause-answer c =
    let b = the_view c.self.inside in
    let r = c.args.ready in
    let ready = ready_as b c.args.self.now r c.self.view_is c.requires in
    rw (← c.self.view_is) (patch-answer b r.name.tenant r.name.id r.place r.now r.chunk c.self.invariant (stored_tenant_there b r c.self.invariant ready) ready.seen ready.accepted r.after ready.after)

pub returns-clause-after : goal.returns-clause-after
returns-clause-after c =
    let b = the_view c.self.inside in
    let r = c.args.ready in
    let ready = ready_as b c.args.self.now r c.self.view_is c.requires in
    let within = stored_tenant_there b r c.self.invariant ready in
    let bytes : c.as_slice-bytes.result.now ≡ r.chunk.bytes = c.as_slice-bytes.ensures ∙ ap (λ (chunk : Chunk). chunk.bytes) c.chunk.view_is in
    let follows = patch-follows b r.name.tenant r.name.id r.place r.now r.chunk c.self.invariant within ready.seen ready.accepted c.put.new.self c.as_slice-bytes.result.now r.after bytes ready.after (rw c.from-tenant.ensures at c.put.ensures.plain) c.put.ensures.sizes c.put.ensures.room_stays in
    let charged = ap (λ n. b.charged + n) (patch-taken b r.name.tenant r.name.id r.place r.now r.chunk c.self.invariant within ready.seen ready.accepted c.from-tenant.result c.put.result c.as_slice-bytes.result.now c.from-tenant.ensures bytes c.put.ensures.taken) in
    rw (← c.self.view_is) (plain-patch b r.name.tenant r.name.id r.place r.now r.chunk c.self.invariant within ready.seen ready.accepted c.put.new.self (b.charged + c.put.result) follows charged)
