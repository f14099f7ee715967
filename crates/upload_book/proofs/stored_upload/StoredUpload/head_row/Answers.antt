use Rattle.std.proofs.Common.{refl}
use Rattle.upload_book.proofs.Store.OwnLemmas.{offset-whole}
use Rattle.upload_book.proofs.stored_upload.StoredUpload.head_row.Goals as goal

pub returns : goal.returns
returns c p whole =
    rw (c.new.ensures, offset-whole p c.args.self.now.kept whole, c.offset.ensures, c.kind.ensures, c.metadata.ensures, c.concat.ensures) (rw (← c.self.view_is) refl)
