use Rattle.std.proofs.Common.{List, ℕ, ◌++◌, ap, ◌∙◌}
use Rattle.journal_records.specs.Records.{record_bytes}
use Rattle.upload_book.specs.declared.change.Change.TheVariants.{Restore}
use Rattle.book_replay.proofs.SnapshotLemmas.{one-put_ok}
use Rattle.book_replay.proofs.snapshot.put_piece.Goals as goal

pub returns : goal.returns
returns c =
    let record_is = record_bytes c.args.now (Restore c.args.piece) in
    one-put_ok c.put_room.result c.args.now c.args.piece c.in_ok-room-2.room.items _ _ (c.in_ok-room-2.ensures ∙ ap (λ (front : List ℕ). front ++ record_is) c.in_ok-room.ensures) c.requires c.put_room.ensures.put c.put_room.ensures.fits
