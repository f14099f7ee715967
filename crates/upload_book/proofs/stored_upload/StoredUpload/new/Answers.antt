use Rattle.std.proofs.Common.{length, ℕ, ap, arith}
use Rattle.upload_book.proofs.Lawful.TextLemmas.{kept_metadata-fits, new_concat-fits}
use Rattle.upload_book.proofs.stored_upload.StoredUpload.new.Goals as goal

pub invariant_of-result : goal.invariant_of-result
invariant_of-result c = (
  tt,
  omega (arith, kept_metadata-fits _ c.requires.metadata, ap (length {A = ℕ}) c.requires.texts.0),
  omega (arith, new_concat-fits _ _ c.requires.concat, ap (length {A = ℕ}) c.requires.texts.1),
)
