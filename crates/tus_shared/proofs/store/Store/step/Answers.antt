use Rattle.std.proofs.Common.{◌≡◌, Some, ap, option_map, sym, subst, ◌∙◌}
use Rattle.upload_book.specs.Begun.{IsBegun}
use Rattle.upload_book.specs.PlainBook.{PlainBook}
use Rattle.upload_book.specs.Settings.{Settings}
use Rattle.tus_steps.specs.Asked.{asked_in, change_in}
use Rattle.tus_steps.specs.Changing.{IsChangeStep, IsStepOf, change_found, change_reply}
use Rattle.tus_steps.specs.declared.asked.Asked.{Asked}
use Rattle.head_board.specs.Events.{book_at}
use Rattle.tus_shared.specs.Desk.{Desk, queueing}
use Rattle.tus_shared.specs.Journal.{Queueing}
use Rattle.tus_shared.specs.Steps.{IsStepAt}
use Rattle.tus_shared.proofs.ChangeLemmas.{done-step}
use Rattle.head_board.proofs.SettingsLemmas.{at-settings}
use Rattle.tus_shared.proofs.FinalLemmas.{request-restores-nothing}
use Rattle.tus_shared.proofs.HeadLemmas.{begun-later}
use Rattle.tus_shared.proofs.store.Store.step.Goals as goal

pub returns-in-Change-clause-step : goal.returns-in-Change-clause-step
returns-in-Change-clause-step g c =
    let s = g.C.Charges.settings in
    let r = c.args.request.now in
    let before = book_at s c.args.self.now in
    let after = book_at s c.make-outcome.new.self in
    let settings = at-settings s c.args.self.now in
    let found = c.requires.found.step before c.args.now c.make-outcome.ensures.lawful settings in
    let steps : IsStepOf before r c.args.now c.in-Change.asked = subst (λ (asks : Asked). IsChangeStep before r c.args.now (change_in asks)) c.in-Change.is found in
    let asks : change_found before.settings r ≡ Some c.in-Change.asked = ap (λ (t : Settings). change_found t r) settings ∙ ap change_in (sym c.requires.found.is ∙ c.in-Change.is) in
    let frame = option_map (λ f. f.items) c.args.frame in
    let made = done-step (queueing c.begin.new.desk frame) s c.args.self.now c.make-outcome.new.self c.begin.new.desk.number r c.args.now c.in-Change.asked c.make-outcome.result asks steps c.make-outcome.ensures.done in
    let same = ap (λ (d : Desk). queueing d frame) c.begin.ensures.desk in
    rw c.put_change.ensures (subst (λ (q : Queueing). IsStepAt q before r c.args.now (change_reply r c.in-Change.asked.offset c.make-outcome.result) after) same made)

pub answer_asked-requires-clause-found : goal.answer_asked-requires-clause-found
answer_asked-requires-clause-found g c =
    let s = g.C.Charges.settings in
    let settings = ap (λ (b : PlainBook). b.settings) c.headline.ensures.stands ∙ at-settings s c.args.self.now in
    subst (λ (s : Settings). c.args.asked ≡ asked_in s c.args.request.now) (sym settings) c.requires.found.is

pub make-outcome-requires-clause-plain : goal.make-outcome-requires-clause-plain
make-outcome-requires-clause-plain g c = request-restores-nothing g.C.Charges.settings c.args.request.now c.in-Change.asked (ap change_in (sym c.requires.found.is ∙ c.in-Change.is))

pub answer_asked-requires-clause-begun : goal.answer_asked-requires-clause-begun
answer_asked-requires-clause-begun g c =
    let s = g.C.Charges.settings in
    λ name is. subst (λ (b : PlainBook). IsBegun b name c.args.begun.first c.args.begun.bytes.items) (sym c.headline.ensures.stands)
    (begun-later s name c.args.begun.first c.args.begun.bytes.items c.args.desk.now.seen c.args.self.now c.begin.ensures.begins (c.requires.begun name is))
