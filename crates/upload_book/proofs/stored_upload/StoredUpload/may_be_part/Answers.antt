use Rattle.std.proofs.Common.{◌&&◌, sym, ap, ◌∙◌}
use Rattle.upload_book.specs.Concat.{is_partial}
use Rattle.upload_book.specs.declared.head_row.Kind.{Kind}
use Rattle.upload_book.specs.declared.progress.Progress.{Progress}
use Rattle.upload_book.specs.Stored.{upload_of}
use Rattle.upload_book.specs.Upload.{is_complete, is_reached}
use Rattle.upload_book.proofs.stored_upload.StoredUpload.may_be_part.Goals as goal

pub returns-in-Partial : goal.returns-in-Partial
returns-in-Partial c p reads =
    let u = upload_of p c.args.self.now.kept in
    c.is_complete.ensures ∙ ap (λ (s : Progress). is_reached s.declared s.offset) (c.progress.ensures p reads)
    ∙ sym (ap (λ (kind : Kind). is_partial kind && is_complete u) (sym c.kind.ensures ∙ c.in-Partial.is))
