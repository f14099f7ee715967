use Rattle.std.proofs.Common.{[], map, take}
use Rattle.upload_book.specs.Book.{plain_of}
use Rattle.upload_book.specs.PlainBook.{tenant_book}
use Rattle.upload_book.specs.snapshot.Snapshot.{uploads_kept}
use Rattle.book_replay.specs.Snapshot.{ArePut}
use Rattle.book_replay.proofs.snapshot.put_part.Given as goal

-- those of the first uploads are put
abbrev pub invariant-loop-place : goal.invariant-loop-place
invariant-loop-place l = ArePut l.now (uploads_kept l.tenant [] (take l.place (tenant_book (plain_of l.book) l.tenant).uploads)) (map (λ room. room.items) l.fn.rooms.items) (map (λ room. room.items) l.rooms.items)
