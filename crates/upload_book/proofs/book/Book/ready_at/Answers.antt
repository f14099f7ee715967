use Rattle.std.proofs.Common.{◌≡◌, ◌+◌, ◌<◌, Bool, true, false, length, None, Result, Ok, Err, OnOk, OnErr, is_err, inl, inr, ap, refl, sym, subst, ◌∙◌, arith}
use Rattle.block_bodies.specs.Bodies.{HasRoom}
use Rattle.upload_book.specs.Book.{StoredBook, plain_of}
use Rattle.upload_book.specs.Chunk.{Chunk, count_all}
use Rattle.upload_book.specs.contracts.book.Book.{the_view}
use Rattle.upload_book.specs.declared.append.Refused.{Refused}
use Rattle.upload_book.specs.declared.ready.ReadyChunk.{ReadyChunk}
use Rattle.upload_book.specs.declared.refusal.Refusal.TheVariants.{Memory}
use Rattle.upload_book.specs.declared.progress.Progress.{Progress}
use Rattle.upload_book.specs.Ready.{IsReadyForChunk}
use Rattle.upload_book.specs.BlockStore.{entry_at}
use Rattle.upload_book.specs.inside.Pieces.{own_chain}
use Rattle.upload_book.proofs.Steps.BookLemmas.{book_with}
use Rattle.upload_book.proofs.Steps.PatchSteps.{IsRead, all-room, patch-alone, patch-lacking, patch-lacks, patch-refused, read-after, read-cost, read-end, read-expires, read-refusal, read-seen, read-progress, read-within}
use Rattle.upload_book.proofs.Steps.ReadyLemmas.{ready-later}
use Rattle.upload_book.proofs.book.Book.ready_at.Goals.{else-count-gt0-via-then-count-gt0+else-is_err, else-count-gt0-via-else-count-gt0}
use Rattle.upload_book.proofs.book.Book.ready_at.Goals as goal

pub with-after-requires : goal.with-after-requires
with-after-requires c =
    let b = the_view c.self.inside in
    let name = c.args.name in
    let r : IsRead b c.args.self.now name.tenant name.id c.args.place c.args.now c.args.chunk c.from-tenant.result c.numbers-numbers.result.now c.account-account.result c.progress-progress.result =
    record { kept = c.self.invariant; is = c.self.view_is; there = c.requires.tenant; seen = c.requires.visible; at = c.from-tenant.ensures; numbers_read = c.numbers-numbers.ensures.value; account_read = c.account-account.ensures; progress_read = c.progress-progress.ensures } in
    let none = read-refusal r c.append_refusal.result None c.append_refusal.ensures c.in_default.is in
    omega (arith, read-end r none)

pub returns-in-Some-clause-refused : goal.returns-in-Some-clause-refused
returns-in-Some-clause-refused c =
    let b = the_view c.self.inside in
    let name = c.args.name in
    let r : IsRead b c.args.self.now name.tenant name.id c.args.place c.args.now c.args.chunk c.from-tenant.result c.numbers-numbers.result.now c.account-account.result c.progress-progress.result =
    record { kept = c.self.invariant; is = c.self.view_is; there = c.requires.tenant; seen = c.requires.visible; at = c.from-tenant.ensures; numbers_read = c.numbers-numbers.ensures.value; account_read = c.account-account.ensures; progress_read = c.progress-progress.ensures } in
    let refused : Progress → Refused = λ s. record { refusal = c.in-Some.refusal; expires = s.expires } in
    inl (rw (← c.self.view_is) (ap (λ s. Err (refused s)) (read-progress r) ∙ sym (patch-refused b name.tenant name.id c.args.place c.args.now c.args.chunk c.self.invariant (read-within r) (read-seen r) c.in-Some.refusal (read-refusal r c.append_refusal.result _ c.append_refusal.ensures c.in-Some.is))))

pub overflow_add-count : goal.overflow_add-count
overflow_add-count c =
    let b = the_view c.self.inside in
    let name = c.args.name in
    let r : IsRead b c.args.self.now name.tenant name.id c.args.place c.args.now c.args.chunk c.from-tenant.result c.numbers-numbers.result.now c.account-account.result c.progress-progress.result =
    record { kept = c.self.invariant; is = c.self.view_is; there = c.requires.tenant; seen = c.requires.visible; at = c.from-tenant.ensures; numbers_read = c.numbers-numbers.ensures.value; account_read = c.account-account.ensures; progress_read = c.progress-progress.ensures } in
    let none = read-refusal r c.append_refusal.result None c.append_refusal.ensures c.in_default.is in
    let count : c.len-len.result + c.chunk.inside.more ≡ count_all c.args.chunk = omega (arith, c.len-len.ensures.value, ap (λ (chunk : Chunk). length chunk.bytes) c.chunk.view_is, ap (λ (chunk : Chunk). chunk.more) c.chunk.view_is) in
    omega (arith, read-end r none, count)

pub reserve-requires-clause-alone : goal.reserve-requires-clause-alone
reserve-requires-clause-alone c =
    let b = the_view c.self.inside in
    let name = c.args.name in
    let r : IsRead b c.args.self.now name.tenant name.id c.args.place c.args.now c.args.chunk c.from-tenant.result c.numbers-numbers.result.now c.account-account.result c.progress-progress.result =
    record { kept = c.self.invariant; is = c.self.view_is; there = c.requires.tenant; seen = c.requires.visible; at = c.from-tenant.ensures; numbers_read = c.numbers-numbers.ensures.value; account_read = c.account-account.ensures; progress_read = c.progress-progress.ensures } in
    let none = read-refusal r c.append_refusal.result None c.append_refusal.ensures c.in_default.is in
    let count : c.len-len.result + c.chunk.inside.more ≡ count_all c.args.chunk = omega (arith, c.len-len.ensures.value, ap (λ (chunk : Chunk). length chunk.bytes) c.chunk.view_is, ap (λ (chunk : Chunk). chunk.more) c.chunk.view_is) in
    let some : 0 < count_all c.args.chunk = subst (λ n. 0 < n) count c.if-count-gt0.true in
    rw c.from-tenant.ensures (patch-alone b name.tenant name.id c.args.place c.args.now c.args.chunk c.self.invariant (read-within r) (read-seen r) none some)

pub reserve-requires-clause-room : goal.reserve-requires-clause-room
reserve-requires-clause-room c =
    let b = the_view c.self.inside in
    let name = c.args.name in
    let r : IsRead b c.args.self.now name.tenant name.id c.args.place c.args.now c.args.chunk c.from-tenant.result c.numbers-numbers.result.now c.account-account.result c.progress-progress.result =
    record { kept = c.self.invariant; is = c.self.view_is; there = c.requires.tenant; seen = c.requires.visible; at = c.from-tenant.ensures; numbers_read = c.numbers-numbers.ensures.value; account_read = c.account-account.ensures; progress_read = c.progress-progress.ensures } in
    let none = read-refusal r c.append_refusal.result None c.append_refusal.ensures c.in_default.is in
    let count : c.len-len.result + c.chunk.inside.more ≡ count_all c.args.chunk = omega (arith, c.len-len.ensures.value, ap (λ (chunk : Chunk). length chunk.bytes) c.chunk.view_is, ap (λ (chunk : Chunk). chunk.more) c.chunk.view_is) in
    rw (c.from-tenant.ensures, count) (all-room b name.tenant name.id c.args.place c.args.now c.args.chunk c.self.invariant (read-within r) (read-seen r) none)

-- what holds of an error holds where there is one
of_err : {T E P : Type 0} (result : Result T E) (failed : Bool) → failed ≡ is_err result → failed ≡ true → OnErr result P → P
of_err (Ok x) failed is holds p = absurd cc
of_err (Err e) failed is holds p = p

-- and what holds of a success where there is none
of_ok : {T E P : Type 0} (result : Result T E) (failed : Bool) → failed ≡ is_err result → failed ≡ false → OnOk result P → P
of_ok (Ok x) failed is holds p = p
of_ok (Err e) failed is holds p = absurd cc

pub returns-then-is_err-clause-refused : goal.returns-then-is_err-clause-refused
returns-then-is_err-clause-refused c =
    let b = the_view c.self.inside in
    let name = c.args.name in
    let r : IsRead b c.args.self.now name.tenant name.id c.args.place c.args.now c.args.chunk c.from-tenant.result c.numbers-numbers.result.now c.account-account.result c.progress-progress.result =
    record { kept = c.self.invariant; is = c.self.view_is; there = c.requires.tenant; seen = c.requires.visible; at = c.from-tenant.ensures; numbers_read = c.numbers-numbers.ensures.value; account_read = c.account-account.ensures; progress_read = c.progress-progress.ensures } in
    let none = read-refusal r c.append_refusal.result None c.append_refusal.ensures c.in_default.is in
    let after = read-after r c.with-after.result c.with-after.ensures in
    let count : c.len-len.result + c.chunk.inside.more ≡ count_all c.args.chunk = omega (arith, c.len-len.ensures.value, ap (λ (chunk : Chunk). length chunk.bytes) c.chunk.view_is, ap (λ (chunk : Chunk). chunk.more) c.chunk.view_is) in
    let lacks = of_err c.reserve.result c.is_err.result c.is_err.ensures.value c.if-is_err.true c.reserve.ensures.memory in
    let refused : Progress → Refused = λ s. record { refusal = Memory; expires = s.expires } in
    inr (rw (← c.self.view_is) (patch-lacks b name.tenant name.id c.args.place c.args.now c.args.chunk c.self.invariant (read-within r) (read-seen r) none c.with-after.result c.from-tenant.result _ after c.from-tenant.ensures count lacks, ap Err (c.refused_for_memory.ensures ∙ ap refused (read-progress r)) ∙ sym (patch-lacking b name.tenant name.id c.args.place c.args.now c.args.chunk c.self.invariant (read-within r) (read-seen r))))

pub returns-clause-ready : goal.returns-clause-ready
returns-clause-ready c =
    let b = the_view c.self.inside in
    let name = c.args.name in
    let r : IsRead b c.args.self.now name.tenant name.id c.args.place c.args.now c.args.chunk c.from-tenant.result c.numbers-numbers.result.now c.account-account.result c.progress-progress.result =
    record { kept = c.self.invariant; is = c.self.view_is; there = c.requires.tenant; seen = c.requires.visible; at = c.from-tenant.ensures; numbers_read = c.numbers-numbers.ensures.value; account_read = c.account-account.ensures; progress_read = c.progress-progress.ensures } in
    let none = read-refusal r c.append_refusal.result None c.append_refusal.ensures c.in_default.is in
    let after = read-after r c.with-after.result c.with-after.ensures in
    let count : c.len-len.result + c.chunk.inside.more ≡ count_all c.args.chunk = omega (arith, c.len-len.ensures.value, ap (λ (chunk : Chunk). length chunk.bytes) c.chunk.view_is, ap (λ (chunk : Chunk). chunk.more) c.chunk.view_is) in
    let cost = read-cost r c.len-len.result c.blocks_added-cost.result (c.len-len.ensures.value ∙ ap (λ (chunk : Chunk). length chunk.bytes) c.chunk.view_is) c.blocks_added-cost.ensures in
    let ready : ReadyChunk = record { name = name; chunk = c.args.chunk; now = c.args.now; place = c.args.place; expires = c.progress-progress.result.expires; after = c.with-after.result; cost = c.blocks_added-cost.result } in
    let there : name.tenant < length b.settings.tenants = omega (arith, c.requires.tenant, ap (λ (b : StoredBook). length b.settings.tenants) c.self.view_is) in
    elim c.else-count-gt0.branch [
      | else-count-gt0-via-then-count-gt0+else-is_err w ↦
          let later : StoredBook = record b { store = w.reserve.new.self } in
          let plain = of_ok w.reserve.result w.is_err.result w.is_err.ensures.value w.if-is_err.false w.reserve.ensures.plain in
          let listed = of_ok w.reserve.result w.is_err.result w.is_err.ensures.value w.if-is_err.false w.reserve.ensures.listed in
          let room : HasRoom later.store.pool (own_chain (entry_at later.store name.tenant c.args.place).kept.pieces) (count_all c.args.chunk) =
          subst (λ t. HasRoom later.store.pool (own_chain (entry_at later.store t c.args.place).kept.pieces) (count_all c.args.chunk)) c.from-tenant.ensures
          (subst (λ n. HasRoom later.store.pool (own_chain (entry_at later.store c.from-tenant.result c.args.place).kept.pieces) n) count listed) in
          subst (λ (b : StoredBook). IsReadyForChunk b ready) (sym w.self-is)
          (ready-later b later ready (ap (λ tenants. book_with (plain_of b) tenants b.charged b.released) plain) there (read-seen r) none (read-expires r) after cost (λ some. room))
      | else-count-gt0-via-else-count-gt0 w ↦
          subst (λ (b : StoredBook). IsReadyForChunk b ready) (c.self.view_is ∙ sym w.self-is)
          (ready-later b b ready refl there (read-seen r) none (read-expires r) after cost (λ some. absurd (omega (arith, some, w.if-count-gt0.false, count))))
    ]

-- the lists of an upload's blocks alone have more room
pub invariant_of-self-else-is_err : goal.invariant_of-self-else-is_err
invariant_of-self-else-is_err c =
    let plain = of_ok c.reserve.result c.is_err.result c.is_err.ensures.value c.if-is_err.false c.reserve.ensures.plain in
    let kept = c.self.invariant in
    record {
      lawful = rw plain kept.lawful;
      size = rw c.reserve.ensures.pool kept.size;
      blocks = rw c.reserve.ensures.pool kept.blocks;
      room = c.reserve.ensures.room_stays ∙ kept.room;
      expiries = rw plain kept.expiries;
      entries = kept.entries;
    }
