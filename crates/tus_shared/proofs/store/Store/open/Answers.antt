use Rattle.std.proofs.Common.{[], List, ℕ, Option, ap, ap₂, rules, sym, subst, ◌∙◌}
use Rattle.logbook.specs.Pages.{Book}
use Rattle.head_board.specs.Board.{BoardView}
use Rattle.head_board.specs.Event.{Event}
use Rattle.head_board.specs.inside.EventLog.{LogPrefix}
use Rattle.tus_shared.specs.inside.QueueRule.{IsQueued, QueueView, new_queue}
use Rattle.tus_shared.proofs.QueueLemmas.{queue-new}
use Rattle.tus_shared.proofs.store.Store.open.Goals as goal

pub invariant_of-store : goal.invariant_of-store
invariant_of-store g c =
    let journal = g.C.Charges.journal in
    let log = g.C.Charges.log in
    let events = ap (λ (v : BoardView). v.events) c.in-Ok-opened.ensures.board in
    let keyed = c.queue_of-queue.ensures ∙ ap (λ (j : Option ℕ). new_queue j c.again.result.book c.again.result.events) c.requires.journal in
    let is = keyed ∙ ap₂ (λ (b : Book) (es : List Event). new_queue journal b es) (ap (λ (p : LogPrefix). p.book) c.again.ensures ∙ c.requires.log) (ap (λ (p : LogPrefix). p.events) c.again.ensures ∙ c.args.opened.empty) in
    let new = subst (λ (q : Option QueueView). IsQueued g.C.Charges.settings journal log [] q) (sym is) (queue-new g.C.Charges.settings journal log) in (
      search rules,
      subst (λ (es : List Event). IsQueued g.C.Charges.settings journal log es c.queue_of-queue.result) (sym events) new,
    )
