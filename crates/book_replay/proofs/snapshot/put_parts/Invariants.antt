use Rattle.std.proofs.Common.{map, take}
use Rattle.upload_book.specs.Book.{plain_of}
use Rattle.upload_book.specs.snapshot.Snapshot.{parts_kept}
use Rattle.book_replay.specs.Snapshot.{ArePut}
use Rattle.book_replay.proofs.snapshot.put_parts.Given as goal

-- those of the first tenants are put
abbrev pub invariant-loop-tenant : goal.invariant-loop-tenant
invariant-loop-tenant l = ArePut l.now (parts_kept 0 (take l.tenant (plain_of l.book).tenants)) (map (λ room. room.items) l.fn.rooms.items) (map (λ room. room.items) l.rooms.items)
