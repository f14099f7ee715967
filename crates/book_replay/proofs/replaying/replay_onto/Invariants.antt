use Rattle.std.proofs.Common.{◌≡◌, ◌+◌, ◌≤◌, length}
use Rattle.journal_frames.specs.Frames.{recovered}
use Rattle.upload_book.specs.Book.{plain_of}
use Rattle.book_replay.specs.Replay.{replayed}
use Rattle.book_replay.proofs.replaying.replay_onto.Given as goal

abbrev pub invariant-records : goal.invariant-records
invariant-records l = record {
  key : l.records.key ≡ l.fn.records.key;
  so_far : replayed l.number (plain_of l.book) (recovered l.records.key l.records.rest.now) ≡ replayed 1 (plain_of l.fn.book) (recovered l.fn.records.key l.fn.records.rest.now);
  few : l.number + length l.records.rest.now ≤ 1 + length l.fn.records.rest.now;
}

abbrev pub decreases-records : goal.decreases-records
decreases-records l = length l.records.rest.now
