use Rattle.std.proofs.Common.{◌≡◌, [], ◌∷◌, map, sym, ap, ◌∙◌, arith}
use Rattle.upload_book.specs.Stored.{StoredUpload, segment_of}
use Rattle.upload_book.specs.inside.Pieces.{as_piece}
use Rattle.upload_book.specs.TenantBook.{Entry}
use Rattle.upload_book.proofs.Steps.PartLemmas.{AreListed-next, AreListed-next_missing}
use Rattle.upload_book.proofs.Store.StoreLemmas.{IsPart-read, IsEntry-read, entry_at-read}
use Rattle.upload_book.proofs.block_store.BlockStore.list_parts.Goals.{in-Some+in_ok-piece, in_default}
use Rattle.upload_book.proofs.block_store.BlockStore.list_parts.Goals as goal

pub loop-part-preserved : goal.loop-part-preserved
loop-part-preserved c = elim c.match-part.branch [
  | in-Some+in_ok-piece w ↦
      let part = IsPart-read c.self.inside c.args.self.now c.args.tenant w.index.result.now c.self.view_is c.requires w.index.ensures in
      let entry = IsEntry-read c.self.inside c.args.self.now c.args.tenant w.in-Some.place w.index.result.now w.index-in-Some.result.now c.self.view_is part w.in-Some.ensures.place.there w.index-in-Some.ensures in
      let same : segment_of (as_piece w.in_ok-piece.piece) ∷ [] ≡ map segment_of _ = w.in_ok-piece.ensures ∙ ap (λ (e : Entry StoredUpload). map segment_of e.kept.pieces) (sym (entry_at-read c.self.inside c.args.self.now c.args.tenant w.in-Some.place w.index.result.now w.index-in-Some.result.now c.self.view_is part entry)) in
      rw w.listed-is (record {
        listed = rw w.push_reserved.ensures.items (AreListed-next c.args.self.now c.args.tenant c.args.named.now c.args.now c.loop-part.part-index w.in-Some.place c.loop-part.listed.items w.in_ok-piece.piece c.loop-part-test.true c.loop-part.invariant.listed w.in-Some.ensures.place same);
        few = omega (arith, w.push_reserved.ensures.len, c.loop-part.invariant.few);
        room = omega (arith, w.push_reserved.ensures.capacity, c.loop-part.invariant.room);
      })
  | in_default w ↦
      rw w.listed-is (record {
        listed = AreListed-next_missing c.args.self.now c.args.tenant c.args.named.now c.args.now c.loop-part.part-index c.loop-part.listed.items c.loop-part-test.true c.loop-part.invariant.listed w.in_default.ensures.none;
        few = omega (arith, c.loop-part.invariant.few);
        room = c.loop-part.invariant.room;
      })
]
