use Rattle.upload_book.proofs.Restoring.BooksBack.{snapshots_restore}
use Rattle.upload_book.proofs.laws.snapshots_restore.Goals as goal

pub returns : goal.returns
returns c = snapshots_restore
