use Rattle.std.proofs.Common.{◌≡◌, List, ℕ, true, false, Option, length, ap, ap₂, refl, rules, sym, subst, ◌∙◌}
use Rattle.logbook.specs.Pages.{Book}
use Rattle.upload_book.specs.Change.{CanBeMade}
use Rattle.upload_book.specs.Lawful.{IsLawful}
use Rattle.upload_book.specs.Settings.{Settings}
use Rattle.head_board.specs.Event.{Event}
use Rattle.head_board.specs.Events.{book_at}
use Rattle.head_board.specs.inside.EventLog.{LogPrefix}
use Rattle.tus_shared.specs.inside.QueueRule.{IsQueued, QueueView, passed}
use Rattle.tus_shared.proofs.ChangeLemmas.{done-made}
use Rattle.tus_shared.proofs.QueueLemmas.{queue-passed}
use Rattle.tus_shared.proofs.store.Store.make_kept.Goals as goal

pub returns-then-not-can_be_made-clause-again : goal.returns-then-not-can_be_made-clause-again
returns-then-not-can_be_made-clause-again g c =
    let count : c.tenant_count.result ≡ length g.C.Charges.settings.tenants = c.tenant_count.ensures ∙ ap (λ (s : Settings). length s.tenants) (c.settings.ensures.value ∙ c.self.invariant.0.settings) in
    let no_change : c.can_be_made.result ≡ false = search rules in (
      λ can. absurd (cc (no_change, c.can_be_made.ensures.required.1 (subst (λ (n : ℕ). CanBeMade n c.args.change) (sym count) can))),
      search rules,
    )

pub invariant_of-self : goal.invariant_of-self
invariant_of-self g c = (rw c.prepare.ensures.plain c.self.invariant.0, c.self.invariant.1)

pub returns-in-Err-clause-again : goal.returns-in-Err-clause-again
returns-in-Err-clause-again g c = rw (← c.self.view_is) (rw c.self.invariant.0.at.is at c.in-Err.ensures.refused, refl)

pub make_ready-requires-clause-asked : goal.make_ready-requires-clause-asked
make_ready-requires-clause-asked g c =
    let count : c.tenant_count.result ≡ length g.C.Charges.settings.tenants = c.tenant_count.ensures ∙ ap (λ (s : Settings). length s.tenants) (c.settings.ensures.value ∙ c.self.invariant.0.settings) in
    let yes_can : c.can_be_made.result ≡ true = search rules in
    subst (CanBeMade (length g.C.Charges.settings.tenants)) (sym c.in-Ok.ensures.change) (subst (λ (n : ℕ). CanBeMade n c.args.change) count (c.can_be_made.ensures.required.0 yes_can))

pub make_ready-requires-clause-store : goal.make_ready-requires-clause-store
make_ready-requires-clause-store g c = rw c.prepare.ensures.plain c.self.invariant.0

pub invariant_of-self-2 : goal.invariant_of-self-2
invariant_of-self-2 g c =
    let events = c.self.inside.board.events in
    let after = c.make_ready.new.board.events in
    let yes_idle : c.is_idle.result ≡ true = search rules in
    let all = c.again.ensures ∙ c.seen.ensures in
    let next = c.pass_queue.ensures ∙ ap₂ (λ (b : Book) (es : List Event). passed c.self.inside.queue b es) (ap (λ (p : LogPrefix). p.book) all ∙ c.make_ready.ensures.store.board_log) (ap (λ (p : LogPrefix). p.events) all) in (
      c.make_ready.ensures.store,
      subst (λ (q : Option QueueView). IsQueued g.C.Charges.settings g.C.Charges.journal g.C.Charges.log after q) (sym next) (queue-passed g.C.Charges.settings g.C.Charges.journal g.C.Charges.log events after c.self.inside.queue c.requires.journal (c.is_idle.ensures yes_idle) c.self.invariant.1),
    )

pub returns-clause-stays_happened : goal.returns-clause-stays_happened
returns-clause-stays_happened g c = c.make_ready.ensures.store.at.happened

pub returns-clause-lawful : goal.returns-clause-lawful
returns-clause-lawful g c = rw (← c.self.view_is) (subst IsLawful c.self.invariant.0.at.is c.settings.ensures.lawful)

pub returns-clause-again : goal.returns-clause-again
returns-clause-again g c =
    let events = c.self.inside.board.events in
    let b = book_at g.C.Charges.settings events in
    let made = done-made b _ events c.make_ready.new.board.events c.args.desk.now.number c.args.change _ c.args.now _ c.make_ready.result
    c.in-Ok.ensures.change c.in-Ok.ensures.now (c.prepare.ensures.plain ∙ c.self.invariant.0.at.is) c.make_ready.ensures.next c.make_ready.ensures.answer in
    rw (← c.self.view_is) made.0

pub returns-clause-moves : goal.returns-clause-moves
returns-clause-moves g c = rw (← c.self.view_is) c.make_ready.ensures.moves
