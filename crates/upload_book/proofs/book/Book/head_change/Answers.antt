use Rattle.upload_book.proofs.book.Book.head_change.Goals as goal

pub returns-in-Restore : goal.returns-in-Restore
returns-in-Restore c = rw c.in-Restore.is (c.head_of_piece.ensures c.in-Restore.restore.now)
