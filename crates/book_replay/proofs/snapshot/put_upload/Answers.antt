use Rattle.std.proofs.Common.{List, ℕ, [], ◌∷◌, ◌++◌, ap, ◌∙◌}
use Rattle.journal_records.specs.Records.{record_bytes}
use Rattle.upload_book.specs.declared.change.Change.TheVariants.{Restore}
use Rattle.upload_book.specs.declared.restored.Restored.{Restored}
use Rattle.upload_book.specs.declared.restored.Restored.TheVariants.{Upload, Next}
use Rattle.book_replay.proofs.SnapshotLemmas.{next-put, one-put_ok, put-then_ok}
use Rattle.book_replay.proofs.snapshot.put_upload.Goals as goal

pub returns : goal.returns
returns c =
    let t = c.args.tenant in
    let r = c.args.upload.now in
    let own : Restored = Upload t r in
    let record_is = record_bytes c.args.now (Restore own) in
    put-then_ok c.put_room.result c.args.now (Next t r.id ∷ []) (own ∷ []) _ _ _ (next-put c.args.now t c.id-next.result r.id _ _ c.id-next.ensures c.in_ok-put_piece.ensures)
    (one-put_ok c.put_room.result c.args.now own c.in_ok-room-2.room.items _ _ (c.in_ok-room-2.ensures ∙ ap (λ (front : List ℕ). front ++ record_is) c.in_ok-room.ensures) (λ tenants asked. c.tell_kept.ensures asked.1) c.put_room.ensures.put c.put_room.ensures.fits)
