use Rattle.std.proofs.Common.{◌≤◌, vec_capacity}
use Rattle.head_board.specs.Events.{book_at}
use Rattle.tus_shared.specs.Answers.{OnlyLooks}
use Rattle.upload_book.specs.Begun.{IsBegun}
use Rattle.tus_shared.proofs.desk.Desk.read_ahead.Given as goal

-- what was copied so far are the first bytes of what stands under the name
abbrev pub invariant-loop : goal.invariant-loop
invariant-loop g l = record {
  begun : IsBegun (book_at g.C.Charges.settings l.self.seen) l.name l.begun.first l.begun.bytes.items;
  looks : OnlyLooks l.fn.self l.self;
  room : vec_capacity l.fn.room.bytes ≤ vec_capacity l.begun.bytes;
}
