use Rattle.std.proofs.Common.{ap, length, refl, sym, subst, ◌∙◌, arith}
use Rattle.upload_book.specs.Change.{CanBeMade}
use Rattle.upload_book.specs.Lawful.{IsLawful}
use Rattle.upload_book.specs.PlainBook.{PlainBook}
use Rattle.upload_book.specs.Ready.{change_in}
use Rattle.upload_book.specs.Settings.{Settings}
use Rattle.head_board.specs.Board.{BoardView, ReaderView}
use Rattle.head_board.specs.Events.{HaveHappened}
use Rattle.tus_shared.specs.inside.StoreRule.{IsCounted}
use Rattle.tus_shared.proofs.ChangeLemmas.{no-less, shown-at, shown-one}
use Rattle.head_board.proofs.SettingsLemmas.{at-settings}
use Rattle.tus_shared.proofs.making.make_ready.Goals as goal

pub show_note-requires-clause-asked : goal.show_note-requires-clause-asked
show_note-requires-clause-asked g c =
    subst (λ (s : Settings). CanBeMade (length s.tenants) (change_in c.args.ready)) (sym c.requires.store.board_settings) c.requires.asked

pub returns-clause-store : goal.returns-clause-store
returns-clause-store g c =
    let s = g.C.Charges.settings in
    let old = c.requires.store in
    let shown = c.show_note.ensures.shown in
    let told = c.show_note.ensures.line in
    let after = c.commit-outcome.ensures.after in
    let at = shown-at s _ _ _ _ _ _ _ old.at refl c.requires.asked told.1 shown after in
    let n = no-less _ _ _ _ told.1 after in
    let charged = subst (IsCounted _ _) (sym c.charged.view_is) old.charged in
    let released = subst (IsCounted _ _) (sym c.released.view_is) old.released in
    let made = subst (IsCounted _ _) (sym c.made.view_is) old.made in
    record {
      settings = ap (λ (b : PlainBook). b.settings) at.is ∙ at-settings s c.show_note.new.board.events;
      board_settings = ap (λ (v : BoardView). v.settings) shown ∙ old.board_settings;
      board_log = ap (λ (v : BoardView). v.log) shown ∙ old.board_log;
      at = at;
      charged = record {
        total = omega (arith, n.charged, charged.total, c.add.ensures.total, c.charged_total-had_charged.ensures.value, c.charged_total.ensures.value);
        parts = charged.parts;
        rest = charged.rest;
      };
      released = record {
        total = omega (arith, n.released, released.total, c.add-2.ensures.total, c.released_total-had_released.ensures, c.released_total.ensures);
        parts = released.parts;
        rest = released.rest;
      };
      made = record {
        total = omega (arith, c.add-3.ensures.total, made.total, shown-one _ _ _ shown);
        parts = made.parts;
        rest = made.rest;
      };
    }

pub invariant_of-desk : goal.invariant_of-desk
invariant_of-desk g c =
    let s = g.C.Charges.settings in
    let i = c.desk.invariant in
    let at = shown-at s _ _ _ _ _ _ _ c.requires.store.at refl c.requires.asked c.show_note.ensures.line.1 c.show_note.ensures.shown c.commit-outcome.ensures.after in
    let seen = c.show_to.ensures.seen in
    record {
      settings_are = i.settings_are;
      reader_settings = ap (λ (v : ReaderView). v.settings) seen ∙ i.reader_settings;
      reader_log = ap (λ (v : ReaderView). v.log) seen ∙ i.reader_log;
      happened = subst (λ (v : ReaderView). HaveHappened s v.events) (sym seen) at.happened;
      journal_is = i.journal_is;
      kept_log = i.kept_log;
      charged_part = c.add.ensures.parts ∙ i.charged_part;
      released_part = c.add-2.ensures.parts ∙ i.released_part;
      made_part = c.add-3.ensures.parts ∙ i.made_part;
    }

pub returns-clause-lawful : goal.returns-clause-lawful
returns-clause-lawful g c =
    let at = shown-at g.C.Charges.settings _ _ _ _ _ _ _ c.requires.store.at refl c.requires.asked c.show_note.ensures.line.1 c.show_note.ensures.shown c.commit-outcome.ensures.after in
    subst IsLawful at.is c.charged_total.ensures.lawful

pub returns-clause-moves : goal.returns-clause-moves
returns-clause-moves g c =
    let s = g.C.Charges.settings in
    let shown = c.show_note.ensures.shown in
    let told = c.show_note.ensures.line in
    let after = c.commit-outcome.ensures.after in
    let old = c.requires.store.at in
    let at = shown-at s _ _ _ _ _ _ _ old refl c.requires.asked told.1 shown after in
    let n = no-less _ _ _ _ told.1 after in
    rw (← c.desk.view_is) (record {
      number = refl;
      journal = refl;
      kept = refl;
      charged = omega (arith, n.charged, ap (λ (b : PlainBook). b.charged) old.is, ap (λ (b : PlainBook). b.charged) at.is, c.add.ensures.amount, c.charged_total-had_charged.ensures.value, c.charged_total.ensures.value);
      released = omega (arith, n.released, ap (λ (b : PlainBook). b.released) old.is, ap (λ (b : PlainBook). b.released) at.is, c.add-2.ensures.amount, c.released_total-had_released.ensures, c.released_total.ensures);
      made = omega (arith, c.add-3.ensures.amount, shown-one _ _ _ shown);
    })
