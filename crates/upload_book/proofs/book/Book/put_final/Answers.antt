use Rattle.std.proofs.Common.{◌≡◌, ◌<◌, ◌≤◌, ℕ, length, Option, None, Ok, ap, ap₂, sym, subst, ◌∙◌}
use Rattle.upload_book.specs.Book.{StoredBook, IsBook, plain_of}
use Rattle.upload_book.specs.contracts.book.Book.{the_view}
use Rattle.upload_book.specs.declared.create.Created.{Created}
use Rattle.upload_book.specs.declared.ready.ReadyFinal.{ReadyFinal}
use Rattle.upload_book.specs.PlainBook.{tenant_book}
use Rattle.upload_book.specs.inside.Texts.{IsTextsFor}
use Rattle.upload_book.specs.Ready.{IsReadyForFinal}
use Rattle.upload_book.specs.Concat.{joined_len, joined_upload}
use Rattle.upload_book.specs.Expiries.{ends_of}
use Rattle.upload_book.specs.BlockStore.{part_at, rows_at}
use Rattle.upload_book.specs.TenantBook.{TenantBook, with_new}
use Rattle.upload_book.proofs.Expiries.ExpirySteps.{AreExpiries-renewed, IsRenewed, renewed-few, renewed-known, renewed-room}
use Rattle.upload_book.proofs.Steps.BookSteps.{expiries-room_is, part-plain}
use Rattle.upload_book.proofs.Steps.ConcatSteps.{Concats-read, IsBook-concats, SeesParts-ready, concat-few, concat-id, concat-renewed, concat-room, id-told, plain-concats}
use Rattle.upload_book.proofs.Lawful.Outcomes.{concat_answer-none}
use Rattle.upload_book.proofs.book.Book.put_final.Goals as goal

-- the book was ready
ready_as : (b w : StoredBook) (r : ReadyFinal) → b ≡ w → IsReadyForFinal w r → IsReadyForFinal b r
ready_as b w r is ready = subst (λ (b : StoredBook). IsReadyForFinal b r) (sym is) ready

pub next-id-requires : goal.next-id-requires
next-id-requires c =
    let b = the_view c.self.inside in
    let r = c.args.ready in
    let ready = ready_as b c.args.self.now r c.self.view_is c.requires in
    let s = SeesParts-ready b r.tenant r.new r.now c.self.invariant ready.there in
    rw c.from-place.ensures s.within

pub join-requires-clause-tenant : goal.join-requires-clause-tenant
join-requires-clause-tenant c =
    let b = the_view c.self.inside in
    let r = c.args.ready in
    let ready = ready_as b c.args.self.now r c.self.view_is c.requires in
    let s = SeesParts-ready b r.tenant r.new r.now c.self.invariant ready.there in
    rw c.from-place.ensures s.within

pub join-requires-clause-room : goal.join-requires-clause-room
join-requires-clause-room c =
    let b = the_view c.self.inside in
    let r = c.args.ready in
    let ready = ready_as b c.args.self.now r c.self.view_is c.requires in
    let s = SeesParts-ready b r.tenant r.new r.now c.self.invariant ready.there in
    rw c.from-place.ensures (concat-room s ready.accepted)

pub join-requires-clause-id : goal.join-requires-clause-id
join-requires-clause-id c =
    let b = the_view c.self.inside in
    let r = c.args.ready in
    let ready = ready_as b c.args.self.now r c.self.view_is c.requires in
    let s = SeesParts-ready b r.tenant r.new r.now c.self.invariant ready.there in
    rw c.from-place.ensures (concat-id s ready.accepted)

pub join-requires-clause-few : goal.join-requires-clause-few
join-requires-clause-few c =
    let b = the_view c.self.inside in
    let r = c.args.ready in
    let ready = ready_as b c.args.self.now r c.self.view_is c.requires in
    let s = SeesParts-ready b r.tenant r.new r.now c.self.invariant ready.there in
    rw c.from-place.ensures (concat-few s)

pub join-requires-clause-len : goal.join-requires-clause-len
join-requires-clause-len c =
    let b = the_view c.self.inside in
    let r = c.args.ready in
    let ready = ready_as b c.args.self.now r c.self.view_is c.requires in
    let s = SeesParts-ready b r.tenant r.new r.now c.self.invariant ready.there in
    ready.len ∙ ap (λ t. joined_len (rows_at b.store t r.new.parts r.now)) (sym c.from-place.ensures)

pub join-requires-clause-texts : goal.join-requires-clause-texts
join-requires-clause-texts c =
    let r = c.args.ready in
    subst (λ (room : ℕ). IsTextsFor room r.texts r.new.metadata r.new.concat) (sym c.self.invariant.room) (ready_as (the_view c.self.inside) c.args.self.now r c.self.view_is c.requires).texts

-- the upload gets its end under the id that was read
renewed_to : (b : StoredBook) (r : ReadyFinal) (place id : ℕ) → IsBook b → place ≡ r.tenant → id ≡ (part_at b.store place).next → IsReadyForFinal b r
    → IsRenewed (plain_of b) b.expiries.list r.tenant id (with_new (tenant_book (plain_of b) r.tenant) (joined_upload b.settings.numbers (tenant_book (plain_of b) r.tenant) r.new r.now)) None r.expires
renewed_to b r place id kept at next ready =
    let part : TenantBook = tenant_book (plain_of b) r.tenant in
    let given : id ≡ part.next = next ∙ ap (λ t. (part_at b.store t).next) at ∙ ap (λ (part : TenantBook). part.next) (sym (part-plain b r.tenant)) in
    let made = with_new part (joined_upload b.settings.numbers part r.new r.now) in
    let within = (SeesParts-ready b r.tenant r.new r.now kept ready.there).within in
    subst (λ id. IsRenewed (plain_of b) b.expiries.list r.tenant id made None r.expires) (sym given)
    (subst (λ end. IsRenewed (plain_of b) b.expiries.list r.tenant part.next made None end) (sym ready.expires)
    (concat-renewed b r.tenant r.new r.now kept within (record { some = ready.some; few = ready.few; metadata = ready.metadata; concat = ready.concat }) ready.accepted))

pub set_end-requires-clause-known : goal.set_end-requires-clause-known
set_end-requires-clause-known c =
    let b = the_view c.self.inside in
    let r = c.args.ready in
    renewed-known (renewed_to b r c.from-place.result c.next-id.result c.self.invariant c.from-place.ensures c.next-id.ensures (ready_as b c.args.self.now r c.self.view_is c.requires))

pub set_end-requires-clause-room : goal.set_end-requires-clause-room
set_end-requires-clause-room c =
    let b = the_view c.self.inside in
    let r = c.args.ready in
    subst (λ n. length b.expiries.list ≤ n) (expiries-room_is b c.self.invariant)
    (renewed-few (renewed_to b r c.from-place.result c.next-id.result c.self.invariant c.from-place.ensures c.next-id.ensures (ready_as b c.args.self.now r c.self.view_is c.requires)))

pub set_end-requires-clause-more : goal.set_end-requires-clause-more
set_end-requires-clause-more c =
    let b = the_view c.self.inside in
    let r = c.args.ready in
    λ none some. subst (λ n. length b.expiries.list < n) (expiries-room_is b c.self.invariant)
    (renewed-room (renewed_to b r c.from-place.result c.next-id.result c.self.invariant c.from-place.ensures c.next-id.ensures (ready_as b c.args.self.now r c.self.view_is c.requires)) none some)

pub invariant_of-self : goal.invariant_of-self
invariant_of-self c =
    let b = the_view c.self.inside in
    let r = c.args.ready in
    let ready = ready_as b c.args.self.now r c.self.view_is c.requires in
    let s = SeesParts-ready b r.tenant r.new r.now c.self.invariant ready.there in
    let f = Concats-read s c.join.new.self r.expires ready.expires ready.accepted (record { some = ready.some; few = ready.few; metadata = ready.metadata; concat = ready.concat }) (rw c.from-place.ensures at c.join.ensures.plain) c.join.ensures.sizes c.join.ensures.room_stays in
    let renewed = renewed_to b r c.from-place.result c.next-id.result c.self.invariant c.from-place.ensures c.next-id.ensures ready in
    IsBook-concats b c.join.new.self r.tenant r.new r.now c.set_end.new.self f
    (record { expiries = AreExpiries-renewed renewed c.set_end.new.self.list (c.set_end.ensures.ends (ends_of (plain_of b)) c.self.invariant.expiries renewed.was); room = c.set_end.ensures.room_stays })

pub returns-clause-answer : goal.returns-clause-answer
returns-clause-answer c =
    let b = the_view c.self.inside in
    let r = c.args.ready in
    let ready = ready_as b c.args.self.now r c.self.view_is c.requires in
    let s = SeesParts-ready b r.tenant r.new r.now c.self.invariant ready.there in
    let told : ℕ → Option ℕ → Created = λ id expires. record { name = record { tenant = r.tenant; id = id }; expires = expires } in
    let id = id-told s c.next-id.result (c.next-id.ensures ∙ ap (λ t. (part_at b.store t).next) c.from-place.ensures) in
    rw (← c.self.view_is) (concat_answer-none r.tenant b.settings.numbers (tenant_book (plain_of b) r.tenant) r.new r.now ready.accepted ∙ ap₂ (λ id expires. Ok (told id expires)) (sym id) (sym ready.expires))

pub returns-clause-after : goal.returns-clause-after
returns-clause-after c =
    let b = the_view c.self.inside in
    let r = c.args.ready in
    let ready = ready_as b c.args.self.now r c.self.view_is c.requires in
    let s = SeesParts-ready b r.tenant r.new r.now c.self.invariant ready.there in
    let f = Concats-read s c.join.new.self r.expires ready.expires ready.accepted (record { some = ready.some; few = ready.few; metadata = ready.metadata; concat = ready.concat }) (rw c.from-place.ensures at c.join.ensures.plain) c.join.ensures.sizes c.join.ensures.room_stays in
    rw (← c.self.view_is) (plain-concats b c.join.new.self r.tenant r.new r.now f)
