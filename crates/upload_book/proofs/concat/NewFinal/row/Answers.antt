use Rattle.std.proofs.Common.{length, ap, arith}
use Rattle.upload_book.specs.NewFinal.{NewFinal}
use Rattle.upload_book.proofs.Lawful.TextLemmas.{final_concat-fits, kept_metadata-fits}
use Rattle.upload_book.proofs.concat.NewFinal.row.Goals as goal

pub new-requires-clause-metadata : goal.new-requires-clause-metadata
new-requires-clause-metadata c =
    omega (arith, kept_metadata-fits _ c.requires.metadata, ap (λ (new : NewFinal). length new.metadata) c.self.view_is)

pub new-requires-clause-concat : goal.new-requires-clause-concat
new-requires-clause-concat c =
    omega (arith, final_concat-fits _ c.requires.concat, ap (λ (new : NewFinal). length new.concat) c.self.view_is)
