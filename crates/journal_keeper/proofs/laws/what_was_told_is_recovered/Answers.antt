use Rattle.std.proofs.Common.{ℕ, OnOk, subst, sym}
use Rattle.upload_book.specs.Settings.{Settings}
use Rattle.head_board.specs.Events.{book_at}
use Rattle.journal_keeper.specs.Keeper.{IsLeftBy}
use Rattle.journal_keeper.specs.Opening.{IsRecovered}
use Rattle.journal_keeper.proofs.OpeningLemmas.{all-recovered}
use Rattle.journal_keeper.proofs.laws.what_was_told_is_recovered.Goals as goal

pub returns-clause-recovered : goal.returns-clause-recovered
returns-clause-recovered g c = λ honest file may opened.
    let kept = c.args.keeper.now.kept in
    let tried = c.args.keeper.now.tried in
    let left = subst (λ (key : ℕ). IsLeftBy key g.C.Charges.settings kept tried file) c.requires.same_key (c.tell_crash.ensures.left honest file may) in
    let here = subst (λ (s : Settings). IsLeftBy c.args.key s kept tried file) (sym c.requires.same_settings) left in
    let book = book_at g.E.Charges.settings c.reopen.new.store in
    let made = all-recovered c.reopen.result c.args.key g.E.Charges.settings kept tried c.args.desks.now file book here c.requires.told (c.reopen.ensures.recovered kept file here.left opened) in
    subst (λ (s : Settings). OnOk c.reopen.result (IsRecovered c.args.key file s kept tried c.args.desks.now (book_at s c.reopen.new.store))) c.requires.same_settings made

pub returns-clause-accepts : goal.returns-clause-accepts
returns-clause-accepts g c = λ honest file may opened.
    let kept = c.args.keeper.now.kept in
    let tried = c.args.keeper.now.tried in
    let left = subst (λ (key : ℕ). IsLeftBy key g.C.Charges.settings kept tried file) c.requires.same_key (c.tell_crash.ensures.left honest file may) in
    let here = subst (λ (s : Settings). IsLeftBy c.args.key s kept tried file) (sym c.requires.same_settings) left in
    c.reopen.ensures.accepts kept file here.left opened
