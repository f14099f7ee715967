use Rattle.std.proofs.Common.{[], ◌∷◌, ◌<◌, ◌≤◌, length, sym, ◌∙◌, arith}
use Rattle.upload_book.specs.Book.{plain_of}
use Rattle.upload_book.specs.declared.restored.Restored.TheVariants.{Next}
use Rattle.upload_book.specs.PlainBook.{tenant_book}
use Rattle.upload_book.specs.snapshot.Snapshot.{uploads_kept}
use Rattle.book_replay.proofs.SnapshotLemmas.{lent-there, next-put_ok, put-then_ok, upload-put, uploads-put}
use Rattle.book_replay.proofs.snapshot.put_part.Goals as goal

pub unwrap-upload-requires : goal.unwrap-upload-requires
unwrap-upload-requires c =
    let uploads = (tenant_book (plain_of c.args.book.now) c.args.tenant).uploads in
    let within : c.loop-place.place < length uploads = omega (arith, c.loop-place-test.true, c.upload_count-count.ensures) in
    lent-there uploads c.loop-place.place c.kept_upload.result within c.kept_upload.ensures

pub loop-place-preserved : goal.loop-place-preserved
loop-place-preserved c =
    let uploads = (tenant_book (plain_of c.args.book.now) c.args.tenant).uploads in
    upload-put c.args.now c.args.tenant uploads c.loop-place.place c.unwrap-upload.result _ _ _ (sym c.unwrap-upload.ensures ∙ c.kept_upload.ensures) c.loop-place.invariant c.in_ok-put_upload.ensures

pub returns : goal.returns
returns c =
    let t = c.args.tenant in
    let part = tenant_book (plain_of c.args.book.now) t in
    let past : length part.uploads ≤ c.loop-place.place = omega (arith, c.loop-place-test.false, c.upload_count-count.ensures) in
    let uploads = uploads-put c.args.now t part.uploads c.loop-place.place _ _ past c.loop-place.invariant in
    put-then_ok c.put_piece.result c.args.now (uploads_kept t [] part.uploads) (Next t part.next ∷ []) _ _ _ uploads
    (next-put_ok c.put_piece.result c.args.now t c.next_id-next.result part.next _ _ c.next_id-next.ensures c.put_piece.ensures)
