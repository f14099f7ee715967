use Rattle.std.proofs.Common.{◌≡◌, ◌≤◌, length, ℕ, ◌+◌, Option, option_map, IsSome, Err, ap, refl, sym, subst, inl, ◌∙◌}
use Rattle.book_replay.specs.Replay.{Happens}
use Rattle.upload_book.specs.Change.{CanBeMade, change_lacking}
use Rattle.upload_book.specs.Lawful.{IsLawful}
use Rattle.upload_book.specs.Settings.{Settings}
use Rattle.head_board.specs.Event.{Event}
use Rattle.head_board.specs.Events.{book_at}
use Rattle.tus_shared.specs.Desk.{Desk, queueing}
use Rattle.tus_shared.specs.Journal.{Queueing, journal_len}
use Rattle.tus_shared.specs.Steps.{IsNextEvent}
use Rattle.tus_shared.specs.inside.QueueRule.{IsQueued, QueueView}
use Rattle.tus_shared.proofs.ChangeLemmas.{done-made, done-refused, done-unkept, err-of, event_by, ok-of}
use Rattle.head_board.proofs.SettingsLemmas.{at-settings}
use Rattle.tus_shared.proofs.QueueLemmas.{frame-given, framed-spares, framed-spends, framed-why, queue-journal, queue-on, queue-stays, spends-one}
use Rattle.tus_shared.proofs.ReadyLemmas.{accepted-as}
use Rattle.tus_shared.proofs.store.Store.make.Goals as goal

pub prepare-requires : goal.prepare-requires
prepare-requires g c = rw c.self.invariant.0.settings c.requires.change

pub tell_fits-requires : goal.tell_fits-requires
tell_fits-requires g c =
    let count : c.tenant_count.result ≡ length g.C.Charges.settings.tenants = c.tenant_count.ensures ∙ ap (λ (s : Settings). length s.tenants) (c.settings.ensures.value ∙ c.self.invariant.0.settings) in
    subst (λ (n : ℕ). CanBeMade n c.args.change) (sym count) c.requires.change

pub invariant_of-self : goal.invariant_of-self
invariant_of-self g c = (rw c.prepare.ensures.plain c.self.invariant.0, c.self.invariant.1)

pub returns-in-Err-clause-happened : goal.returns-in-Err-clause-happened
returns-in-Err-clause-happened g c = rw (← c.self.view_is) c.self.invariant.0.at.happened

pub returns-in-Err-clause-stays_happened : goal.returns-in-Err-clause-stays_happened
returns-in-Err-clause-stays_happened g c = c.self.invariant.0.at.happened

pub returns-in-Err-clause-lawful : goal.returns-in-Err-clause-lawful
returns-in-Err-clause-lawful g c = rw (← c.self.view_is) (subst IsLawful c.self.invariant.0.at.is c.settings-lawful.ensures.lawful)

pub returns-in-Err-clause-stays_lawful : goal.returns-in-Err-clause-stays_lawful
returns-in-Err-clause-stays_lawful g c = subst IsLawful c.self.invariant.0.at.is c.settings-lawful.ensures.lawful

pub returns-in-Err-clause-done : goal.returns-in-Err-clause-done
returns-in-Err-clause-done g c =
    let b = book_at g.C.Charges.settings c.self.inside.board.events in
    rw (← c.self.view_is) (done-refused (queueing c.args.desk.now (option_map (λ f. f.items) c.args.frame)) b c.self.inside.board.events c.args.desk.now.number c.args.change c.args.now c.in-Err.refused (rw c.self.invariant.0.at.is at c.in-Err.ensures.refused))

pub returns-in-Err-clause-moves : goal.returns-in-Err-clause-moves
returns-in-Err-clause-moves g c = rw (← c.self.view_is) (record { number = refl; journal = refl; kept = refl; charged = refl; released = refl; made = refl })

pub returns-in-Err-clause-spends : goal.returns-in-Err-clause-spends
returns-in-Err-clause-spends g c = rw (← c.self.view_is) refl

pub returns-in-Err-clause-seen : goal.returns-in-Err-clause-seen
returns-in-Err-clause-seen g c = c.requires.seen ∙ sym c.self.view_is

pub invariant_of-self-then-is_err : goal.invariant_of-self-then-is_err
invariant_of-self-then-is_err g c =
    let why = err-of c.queue_frame.result (sym c.is_err.ensures.value ∙ c.if-is_err.true) in
    let framed = rw why.1 at c.queue_frame.ensures in
    let stays = queue-stays why.0 _ c.self.inside.queue c.queue_frame.new.queue c.desk.inside.room c.spare_for-spare.result c.queue_frame.new.room framed in (
      rw c.prepare.ensures.plain c.self.invariant.0,
      subst (λ (q : Option QueueView). IsQueued g.C.Charges.settings g.C.Charges.journal g.C.Charges.log c.self.inside.board.events q) (sym stays.0) c.self.invariant.1,
    )

pub invariant_of-desk : goal.invariant_of-desk
invariant_of-desk g c = c.desk.invariant

pub returns-then-is_err-clause-happened : goal.returns-then-is_err-clause-happened
returns-then-is_err-clause-happened g c = rw (← c.self.view_is) c.self.invariant.0.at.happened

pub returns-then-is_err-clause-stays_happened : goal.returns-then-is_err-clause-stays_happened
returns-then-is_err-clause-stays_happened g c = c.self.invariant.0.at.happened

pub returns-then-is_err-clause-lawful : goal.returns-then-is_err-clause-lawful
returns-then-is_err-clause-lawful g c = rw (← c.self.view_is) (subst IsLawful c.self.invariant.0.at.is c.settings-lawful.ensures.lawful)

pub returns-then-is_err-clause-stays_lawful : goal.returns-then-is_err-clause-stays_lawful
returns-then-is_err-clause-stays_lawful g c = subst IsLawful c.self.invariant.0.at.is c.settings-lawful.ensures.lawful

pub returns-then-is_err-clause-done : goal.returns-then-is_err-clause-done
returns-then-is_err-clause-done g c =
    let why = err-of c.queue_frame.result (sym c.is_err.ensures.value ∙ c.if-is_err.true) in
    let framed = rw why.1 at c.queue_frame.ensures in
    let stays = queue-stays why.0 _ c.self.inside.queue c.queue_frame.new.queue c.desk.inside.room c.spare_for-spare.result c.queue_frame.new.room framed in
    let events = c.self.inside.board.events in
    let b = book_at g.C.Charges.settings events in
    let there = queue-journal g.C.Charges.settings g.C.Charges.journal g.C.Charges.log events c.self.inside.queue c.self.invariant.1 stays.2 in
    let journalled = subst (λ (j : Option ℕ). IsSome j) (sym c.desk.invariant.journal_is) there in
    let accepted = accepted-as b c.prepare.new.self c.in-Ok.ready c.args.change c.args.now (c.prepare.ensures.plain ∙ c.self.invariant.0.at.is) c.in-Ok.ensures.change c.in-Ok.ensures.now c.in-Ok.ensures.ready in
    let given = frame-given c.args.frame (λ f. f.items) g.C.Charges.journal c.desk.inside.number c.args.change c.args.now c.requires.frame in
    let unqueued = framed-why g.C.Charges.journal c.desk.inside.journal (event_by c.desk.inside.number c.args.change c.args.now) why.0 _ c.self.inside.queue c.queue_frame.new.queue c.desk.inside.room c.spare_for-spare.result c.queue_frame.new.room framed given c.spare_for-spare.ensures c.desk.invariant.journal_is in
    let q : Queueing = record { journal = c.desk.inside.journal; frame = option_map (λ f. f.items) c.args.frame; room = c.desk.inside.room } in
    let told : Err c.refused_for_memory.result ≡ change_lacking b c.args.change c.args.now = rw (c.prepare.ensures.plain, c.self.invariant.0.at.is, c.in-Ok.ensures.change, c.in-Ok.ensures.now) at c.refused_for_memory.ensures in
    rw (← c.self.view_is, ← c.desk.view_is) (done-unkept q b events c.desk.inside.number c.args.change c.args.now c.refused_for_memory.result (record { journalled = journalled; accepted = accepted; why = why.0; unqueued = unqueued }) told)

pub returns-then-is_err-clause-moves : goal.returns-then-is_err-clause-moves
returns-then-is_err-clause-moves g c = rw (← c.self.view_is, ← c.desk.view_is) (record { number = refl; journal = refl; kept = refl; charged = refl; released = refl; made = refl })

pub returns-then-is_err-clause-spends : goal.returns-then-is_err-clause-spends
returns-then-is_err-clause-spends g c =
    let why = err-of c.queue_frame.result (sym c.is_err.ensures.value ∙ c.if-is_err.true) in
    let framed = rw why.1 at c.queue_frame.ensures in
    let stays = queue-stays why.0 _ c.self.inside.queue c.queue_frame.new.queue c.desk.inside.room c.spare_for-spare.result c.queue_frame.new.room framed in
    rw (← c.self.view_is, ← c.desk.view_is) (ap (λ (n : ℕ). n + journal_len c.desk.inside.journal c.self.inside.board.events) stays.1)

pub returns-then-is_err-clause-seen : goal.returns-then-is_err-clause-seen
returns-then-is_err-clause-seen g c = ap (λ (d : Desk). d.seen) c.desk.view_is ∙ c.requires.seen ∙ sym c.self.view_is

pub returns-then-is_err-clause-steps : goal.returns-then-is_err-clause-steps
returns-then-is_err-clause-steps g c = ap (λ (d : Desk). d.steps) c.desk.view_is

pub returns-then-is_err-clause-missed : goal.returns-then-is_err-clause-missed
returns-then-is_err-clause-missed g c = ap (λ (d : Desk). d.missed) c.desk.view_is

pub invariant_of-desk-2 : goal.invariant_of-desk-2
invariant_of-desk-2 g c = c.desk.invariant

pub make_ready-requires-clause-ready : goal.make_ready-requires-clause-ready
make_ready-requires-clause-ready g c = c.in-Ok.ensures.ready

pub make_ready-requires-clause-asked : goal.make_ready-requires-clause-asked
make_ready-requires-clause-asked g c =
    subst (CanBeMade (length g.C.Charges.settings.tenants)) (sym c.in-Ok.ensures.change) c.requires.change

pub make_ready-requires-clause-store : goal.make_ready-requires-clause-store
make_ready-requires-clause-store g c = rw c.prepare.ensures.plain c.self.invariant.0

pub invariant_of-self-2 : goal.invariant_of-self-2
invariant_of-self-2 g c =
    let s = g.C.Charges.settings in
    let journal = g.C.Charges.journal in
    let events = c.self.inside.board.events in
    let after = c.make_ready.new.board.events in
    let number = c.desk.inside.number in
    let placed = ok-of c.queue_frame.result (sym c.is_err.ensures.value ∙ c.if-is_err.false) in
    let framed = rw placed at c.queue_frame.ensures in
    let given = frame-given c.args.frame (λ f. f.items) journal number c.args.change c.args.now c.requires.frame in
    let next : IsNextEvent events number c.args.change c.args.now after = rw (c.in-Ok.ensures.change, c.in-Ok.ensures.now) at c.make_ready.ensures.next in
    let b = book_at s events in
    let moment = subst (λ (n : ℕ). n ≤ 253402300799) c.secs-in_range.ensures.value c.secs-in_range.ensures.range in
    let asked = subst (λ (of : Settings). CanBeMade (length of.tenants) c.args.change) (sym (at-settings s events)) c.requires.change in
    let accepted = accepted-as b c.prepare.new.self c.in-Ok.ready c.args.change c.args.now (c.prepare.ensures.plain ∙ c.self.invariant.0.at.is) c.in-Ok.ensures.change c.in-Ok.ensures.now c.in-Ok.ensures.ready in
    let here : Happens b (record { change = c.args.change; now = c.args.now }) = record { asked = asked; accepted = accepted; moment = moment; fits = c.tell_fits.ensures } in (
      c.make_ready.ensures.store,
      queue-on g.C.Charges.settings journal g.C.Charges.log events after (event_by number c.args.change c.args.now) _ c.self.inside.queue c.queue_frame.new.queue c.desk.inside.room c.spare_for-spare.result c.queue_frame.new.room framed given next here c.requires.plain c.self.invariant.1,
    )

pub returns-clause-happened : goal.returns-clause-happened
returns-clause-happened g c = rw (← c.self.view_is) c.self.invariant.0.at.happened

pub returns-clause-stays_happened : goal.returns-clause-stays_happened
returns-clause-stays_happened g c = c.make_ready.ensures.store.at.happened

pub returns-clause-lawful : goal.returns-clause-lawful
returns-clause-lawful g c = rw (← c.self.view_is) (subst IsLawful c.self.invariant.0.at.is c.settings-lawful.ensures.lawful)

pub returns-clause-stays_lawful : goal.returns-clause-stays_lawful
returns-clause-stays_lawful g c = c.make_ready.ensures.lawful

pub returns-clause-done : goal.returns-clause-done
returns-clause-done g c =
    let events = c.self.inside.board.events in
    let b = book_at g.C.Charges.settings events in
    rw (← c.self.view_is, ← c.desk.view_is) (inl (done-made b _ events c.make_ready.new.board.events c.desk.inside.number c.args.change _ c.args.now _ c.make_ready.result
    c.in-Ok.ensures.change c.in-Ok.ensures.now (c.prepare.ensures.plain ∙ c.self.invariant.0.at.is) c.make_ready.ensures.next c.make_ready.ensures.answer))

pub returns-clause-moves : goal.returns-clause-moves
returns-clause-moves g c =
    let m = c.make_ready.ensures.moves in
    rw (← c.self.view_is, ← c.desk.view_is) (record { number = m.number; journal = m.journal; kept = m.kept; charged = m.charged; released = m.released; made = m.made })

pub returns-clause-spends : goal.returns-clause-spends
returns-clause-spends g c =
    let journal = g.C.Charges.journal in
    let events = c.self.inside.board.events in
    let after = c.make_ready.new.board.events in
    let number = c.desk.inside.number in
    let e : Event = event_by number c.args.change c.args.now in
    let placed = ok-of c.queue_frame.result (sym c.is_err.ensures.value ∙ c.if-is_err.false) in
    let framed = rw placed at c.queue_frame.ensures in
    let given = frame-given c.args.frame (λ f. f.items) journal number c.args.change c.args.now c.requires.frame in
    let next : IsNextEvent events number c.args.change c.args.now after = rw (c.in-Ok.ensures.change, c.in-Ok.ensures.now) at c.make_ready.ensures.next in
    let spent = framed-spends journal e _ c.self.inside.queue c.queue_frame.new.queue c.desk.inside.room c.spare_for-spare.result c.queue_frame.new.room framed given c.self.invariant.1.there in
    rw (← c.self.view_is, ← c.desk.view_is) (spends-one journal c.desk.inside.journal events after e c.desk.inside.room c.queue_frame.new.room c.make_ready.new.desk.room c.desk.invariant.journal_is next c.make_ready.ensures.room spent)

pub returns-clause-spares : goal.returns-clause-spares
returns-clause-spares g c = λ journalled.
    let journal = g.C.Charges.journal in
    let placed = ok-of c.queue_frame.result (sym c.is_err.ensures.value ∙ c.if-is_err.false) in
    let framed = rw placed at c.queue_frame.ensures in
    let there = subst (λ (j : Option ℕ). IsSome j) (sym (ap (λ (d : Desk). d.journal) c.desk.view_is) ∙ c.desk.invariant.journal_is) journalled in
    let spared = framed-spares journal _ c.self.inside.queue c.queue_frame.new.queue c.desk.inside.room c.spare_for-spare.result c.queue_frame.new.room framed c.self.invariant.1.there there in
    rw (c.make_ready.ensures.room, ← c.spare_for-spare.ensures) spared

pub returns-clause-seen : goal.returns-clause-seen
returns-clause-seen g c = c.make_ready.ensures.seen

pub returns-clause-steps : goal.returns-clause-steps
returns-clause-steps g c = c.make_ready.ensures.steps ∙ ap (λ (d : Desk). d.steps) c.desk.view_is

pub returns-clause-missed : goal.returns-clause-missed
returns-clause-missed g c = c.make_ready.ensures.missed ∙ ap (λ (d : Desk). d.missed) c.desk.view_is
