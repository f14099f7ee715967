use Rattle.std.proofs.Common.{length, ap, arith}
use Rattle.upload_book.specs.snapshot.Restored.{RestoredUpload}
use Rattle.upload_book.proofs.Lawful.TextLemmas.{concat-fits, kept_metadata-fits}
use Rattle.upload_book.proofs.restored.RestoredUpload.row.Goals as goal

pub new-requires-clause-metadata : goal.new-requires-clause-metadata
new-requires-clause-metadata c =
    omega (arith, kept_metadata-fits _ c.requires.metadata, ap (λ (r : RestoredUpload). length r.metadata) c.self.view_is)

pub new-requires-clause-concat : goal.new-requires-clause-concat
new-requires-clause-concat c =
    omega (arith, concat-fits _ _ c.requires.concat, ap (λ (r : RestoredUpload). length r.concat) c.self.view_is)
