use Rattle.std.proofs.Common.{Result, Ok, Err, refl, sym, ap, subst, ◌∙◌}
use Rattle.std.proofs.lemmas.Result.{err_from_is_err_and}
use Rattle.upload_book.specs.Book.{plain_of}
use Rattle.journal_folders.specs.Export.{IsExported, IsFaultOfExport}
use Rattle.journal_folders.specs.ReadJournal.{LookEnds}
use Rattle.journal_folders.specs.StreamUse.{used}
use Rattle.server_words.specs.declared.fault.RunFault.{RunFault}
use Rattle.journal_folders.proofs.ExportLemmas.{export-files, export-misses}
use Rattle.journal_folders.proofs.ReadLemmas.{ends-printed, ends-unread, ends-wrong}
use Rattle.journal_folders.proofs.exporting.export.Goals as goal

pub returns-in_err-files : goal.returns-in_err-files
returns-in_err-files g c =
    let made = err_from_is_err_and c.from_residual.result c.from_residual.ensures.1 in
    let options = c.args.options.now in
    let finds = g.J.Journals.finds c.args.journals.now options.folder.now in
    let writer = used g.W.Sink.contents g.W.Sink.has_failed c.args.writer.now c.args.writer.now in
    subst (λ (r : Result (Unit {0}) RunFault). LookEnds finds (IsExported options.upload.now) (IsFaultOfExport options.upload.now) writer r) (sym (made.1 ∙ ap Err made.2))
    (ends-unread (Unit {0}) finds (IsExported options.upload.now) (IsFaultOfExport options.upload.now) writer c.in_err-files.field-0.0 c.in_err-files.ensures.unread c.in_err-files.ensures.fault refl)

pub returns-in_err-made : goal.returns-in_err-made
returns-in_err-made g c =
    let made = err_from_is_err_and c.from_residual-in_err-made.result c.from_residual-in_err-made.ensures.1 in
    let options = c.args.options.now in
    let finds = g.J.Journals.finds c.args.journals.now options.folder.now in
    let writer = used g.W.Sink.contents g.W.Sink.has_failed c.args.writer.now c.args.writer.now in
    let files = c.in_ok-files.files in
    let wrong = export-files options.upload.now files.journal.items files.settings.items c.in_err-made.field-0.0 c.in_err-made.ensures.fault in
    subst (λ (r : Result (Unit {0}) RunFault). LookEnds finds (IsExported options.upload.now) (IsFaultOfExport options.upload.now) writer r) (sym (made.1 ∙ ap Err made.2))
    (ends-wrong (Unit {0}) finds (IsExported options.upload.now) (IsFaultOfExport options.upload.now) writer files.journal.items files.settings.items c.in_ok-files.ensures.read c.in_err-made.field-0.0 wrong (λ _ other. other) refl)

pub returns-in_err-bytes : goal.returns-in_err-bytes
returns-in_err-bytes g c =
    let raised = err_from_is_err_and c.from_residual-in_err-bytes.result c.from_residual-in_err-bytes.ensures.1 in
    let options = c.args.options.now in
    let finds = g.J.Journals.finds c.args.journals.now options.folder.now in
    let writer = used g.W.Sink.contents g.W.Sink.has_failed c.args.writer.now c.args.writer.now in
    let files = c.in_ok-files.files in
    let made = c.in_ok-made.made in
    let lacks = export-misses options.upload.now files.journal.items files.settings.items made.frames c.in_ok-made.ensures.frames (plain_of made.book) c.in_ok-made.ensures.made c.in_err-bytes.field-0.0 c.in_err-bytes.ensures in
    subst (λ (r : Result (Unit {0}) RunFault). LookEnds finds (IsExported options.upload.now) (IsFaultOfExport options.upload.now) writer r) (sym (raised.1 ∙ ap Err raised.2))
    (ends-wrong (Unit {0}) finds (IsExported options.upload.now) (IsFaultOfExport options.upload.now) writer files.journal.items files.settings.items c.in_ok-files.ensures.read c.in_err-bytes.field-0.0 lacks (λ _ other. other) refl)

pub returns : goal.returns
returns g c =
    let options = c.args.options.now in
    let finds = g.J.Journals.finds c.args.journals.now options.folder.now in
    let writer = used g.W.Sink.contents g.W.Sink.has_failed c.args.writer.now c.print.new.writer in
    let files = c.in_ok-files.files in
    let made = c.in_ok-made.made in
    ends-printed (Unit {0}) finds (IsExported options.upload.now) (IsFaultOfExport options.upload.now) writer files.journal.items files.settings.items c.as_slice.result.now c.in_ok-files.ensures.read
    (record { found = made.frames; read = c.in_ok-made.ensures.frames; book = plain_of made.book; made = c.in_ok-made.ensures.made; are = c.in_ok-bytes.ensures ∙ ap Ok (sym c.as_slice.ensures) })
    c.print.ensures.written c.print.result c.print.ensures.alive c.print.ensures.failed c.print.ensures.fault
