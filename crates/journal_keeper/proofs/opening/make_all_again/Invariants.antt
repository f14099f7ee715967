use Rattle.std.proofs.Common.{◌≡◌, ◌+◌, ◌++◌, ◌≤◌, [], length, All}
use Rattle.head_board.specs.Event.{Event}
use Rattle.head_board.specs.Events.{HaveHappened, book_at}
use Rattle.upload_book.specs.PlainBook.{opening_book}
use Rattle.book_replay.specs.Replay.{replayed}
use Rattle.journal_frames.specs.Frames.{recovered}
use Rattle.tus_shared.specs.Desk.{Moves}
use Rattle.journal_keeper.specs.Keeper.{event_records}
use Rattle.journal_keeper.proofs.opening.make_all_again.Given as goal

-- the changes of the records that were read are made, at this desk
abbrev pub invariant-records : goal.invariant-records
invariant-records g l = record {
  key : l.records.key ≡ l.fn.records.key;
  happened : HaveHappened g.C.Charges.settings l.store;
  so_far : event_records l.store ++ recovered l.records.key l.records.rest.now ≡ recovered l.fn.records.key l.fn.records.rest.now;
  read : replayed l.number (book_at g.C.Charges.settings l.store) (recovered l.records.key l.records.rest.now) ≡ replayed 1 (opening_book g.C.Charges.settings) (recovered l.fn.records.key l.fn.records.rest.now);
  here : All (λ (e : Event). e.desk ≡ l.fn.desk.number) l.store;
  seen : l.desk.seen ≡ l.store;
  moves : Moves g.C.Charges.settings [] l.store l.fn.desk l.desk;
  room : l.desk.room ≡ l.fn.desk.room;
  missed : l.desk.missed ≡ l.fn.desk.missed;
  count : l.number + length (recovered l.records.key l.records.rest.now) ≡ 1 + length (recovered l.fn.records.key l.fn.records.rest.now);
  few : l.number + length l.records.rest.now ≤ 1 + length l.fn.records.rest.now;
}

abbrev pub decreases-records : goal.decreases-records
decreases-records g l = length l.records.rest.now
