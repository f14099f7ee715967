use Rattle.std.proofs.Common.{◌≡◌, Result, Err, List, ℕ, rules, refl, sym, ap, subst, ◌∙◌}
use Rattle.std.proofs.lemmas.Result.{err_from_is_err_and}
use Rattle.upload_book.specs.Book.{plain_of}
use Rattle.journal_folders.specs.ReadJournal.{IsChecked, IsFaultOfFiles, IsLineOf, LookEnds}
use Rattle.journal_folders.specs.StreamUse.{used}
use Rattle.server_words.specs.declared.fault.RunFault.{RunFault}
use Rattle.journal_folders.proofs.ReadLemmas.{ends-printed, ends-unread, ends-wrong}
use Rattle.journal_folders.proofs.checking.check.Goals as goal

pub returns-in_err-files : goal.returns-in_err-files
returns-in_err-files g c =
    let made = err_from_is_err_and c.from_residual.result c.from_residual.ensures.1 in
    let finds = g.J.Journals.finds c.args.journals.now c.args.path.now in
    let writer = used g.W.Sink.contents g.W.Sink.has_failed c.args.writer.now c.args.writer.now in
    subst (λ (r : Result (Unit {0}) RunFault). LookEnds finds IsChecked IsFaultOfFiles writer r) (sym (made.1 ∙ ap Err made.2))
    (ends-unread (Unit {0}) finds IsChecked IsFaultOfFiles writer c.in_err-files.field-0.0 c.in_err-files.ensures.unread c.in_err-files.ensures.fault refl)

pub returns-in_err-made : goal.returns-in_err-made
returns-in_err-made g c =
    let made = err_from_is_err_and c.from_residual-in_err-made.result c.from_residual-in_err-made.ensures.1 in
    let finds = g.J.Journals.finds c.args.journals.now c.args.path.now in
    let writer = used g.W.Sink.contents g.W.Sink.has_failed c.args.writer.now c.args.writer.now in
    let files = c.in_ok-files.files in
    subst (λ (r : Result (Unit {0}) RunFault). LookEnds finds IsChecked IsFaultOfFiles writer r) (sym (made.1 ∙ ap Err made.2))
    (ends-wrong (Unit {0}) finds IsChecked IsFaultOfFiles writer files.journal.items files.settings.items c.in_ok-files.ensures.read c.in_err-made.field-0.0 c.in_err-made.ensures.fault (λ _ wrong. wrong) refl)

pub returns : goal.returns
returns g c =
    let finds = g.J.Journals.finds c.args.journals.now c.args.path.now in
    let writer = used g.W.Sink.contents g.W.Sink.has_failed c.args.writer.now c.print.new.writer in
    let files = c.in_ok-files.files in
    let made = c.in_ok-made.made in
    let line = subst (λ (file : List ℕ). IsLineOf file made.frames (plain_of made.book) c.line_of.result.bytes) c.deref.ensures.value c.line_of.ensures in
    let bytes : c.deref-2.result.now ≡ c.line_of.result.bytes = search rules in
    let tells = subst (λ (text : List ℕ). IsLineOf files.journal.items made.frames (plain_of made.book) text) (sym (c.as_bytes.ensures.value ∙ bytes)) line in
    ends-printed (Unit {0}) finds IsChecked IsFaultOfFiles writer files.journal.items files.settings.items c.as_bytes.result.now c.in_ok-files.ensures.read
    (record { book = plain_of made.book; made = c.in_ok-made.ensures.made; found = made.frames; read = c.in_ok-made.ensures.frames; tells = tells })
    c.print.ensures.written c.print.result c.print.ensures.alive c.print.ensures.failed c.print.ensures.fault
