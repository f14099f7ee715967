use Rattle.std.proofs.Common.{ℕ, ◌≤◌, length, Option, IfSome, ap, subst, ◌∙◌, arith}
use Rattle.journal_records.specs.Records.{IsNumber}
use Rattle.upload_book.specs.declared.head_note.Growth.{Growth}
use Rattle.book_replay.proofs.SnapshotLemmas.{few-segments}
use Rattle.book_replay.proofs.fitting.tell_kept.Goals as goal

pub returns : goal.returns
returns c = λ form. record {
  id = subst IsNumber c.id.ensures c.tell_id.ensures;
  declared = subst (λ (n : Option ℕ). IfSome n IsNumber) (ap (λ (g : Growth). g.declared) c.growth-growth.ensures ∙ c.row-row.ensures.declared) c.tell_number.ensures;
  metadata = omega (arith, c.metadata-metadata.ensures.fits, ap (length {A = ℕ}) (c.metadata-metadata.ensures.value ∙ c.row-row.ensures.metadata));
  expires = subst (λ (end : Option ℕ). IfSome end (λ secs. secs ≤ 253402300799)) (ap (λ (g : Growth). g.expires) c.growth-growth.ensures ∙ c.row-row.ensures.expires) c.tell_end.ensures;
  few = few-segments c.args.upload.now.kind c.args.upload.now.id c.args.upload.now.segments form.segments;
  segments = c.tell_kept_segments.ensures;
}
