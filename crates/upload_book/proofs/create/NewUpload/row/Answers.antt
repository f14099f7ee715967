use Rattle.std.proofs.Common.{length, ap, arith}
use Rattle.upload_book.specs.NewUpload.{NewUpload}
use Rattle.upload_book.proofs.Lawful.TextLemmas.{kept_metadata-fits, new_concat-fits}
use Rattle.upload_book.proofs.create.NewUpload.row.Goals as goal

pub new-requires-clause-metadata : goal.new-requires-clause-metadata
new-requires-clause-metadata c =
    omega (arith, kept_metadata-fits _ c.requires.metadata, ap (λ (new : NewUpload). length new.metadata) c.self.view_is)

pub new-requires-clause-concat : goal.new-requires-clause-concat
new-requires-clause-concat c =
    omega (arith, new_concat-fits _ _ c.requires.concat, ap (λ (new : NewUpload). length new.concat) c.self.view_is)
