use Rattle.std.proofs.Common.{ℕ, ◌≤◌, List, map, Vec, Global, ap, arith}
use Rattle.upload_book.specs.Book.{plain_of}
use Rattle.book_replay.proofs.SnapshotLemmas.{snapshot-put}
use Rattle.book_replay.proofs.snapshot.snapshot_records.Goals as goal

pub returns : goal.returns
returns c =
    let b = plain_of c.args.book.now in
    let moment : c.args.now ≤ 253402300799 = omega (arith, c.secs-secs.ensures.value, c.secs-secs.ensures.range) in
    snapshot-put c.args.now b c.released_total.result _ _ _ (ap (map {A = Vec ℕ Global} {B = List ℕ} (λ room. room.items)) c.new-rooms.ensures.items) c.released_total.ensures moment c.settings-settings.ensures.lawful
    c.in_ok-put_parts.ensures c.in_ok-put_piece.ensures
