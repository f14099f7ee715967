use Rattle.std.proofs.Common.{◌≡◌, ◌+◌, ◌<◌, List, [], ◌∷◌, ◌++◌, length, drop, take, subst, ap, sym, ◌∙◌, arith, append-nil, length-append, ℕ}
use Rattle.std.specs.List.{Contains}
use Rattle.std.proofs.lemmas.List.{take_more}
use Rattle.std.proofs.lemmas.List.Concat.{flat_map-append, flat_map-cons}
use Rattle.std.proofs.lemmas.List.Elements.{Contains-get_or}
use Rattle.block_bodies.specs.Bodies.{content_of}
use Rattle.upload_book.specs.declared.pieces.Piece.{Piece}
use Rattle.upload_book.specs.inside.Pieces.{bytes_of}
use Rattle.upload_book.proofs.Store.OwnLemmas.{range-more}
use Rattle.upload_book.proofs.pieces.read_each.Goals as goal

pub loop-piece-preserved : goal.loop-piece-preserved
loop-piece-preserved c =
    let p = c.args.pool.now in
    let pieces = c.args.pieces.now in
    let i = c.loop-piece.piece-index in
    let x : Piece = c.piece-item.result in
    let there : i < length pieces = c.loop-piece-test.true in
    let front : List ℕ = bytes_of p (take i pieces) in
    let more : bytes_of p (take (i + 1) pieces) ≡ front ++ content_of p x.chain =
    ap (bytes_of p) (take_more pieces i x there ∙ ap (λ (y : Piece). take i pieces ++ y ∷ []) (sym c.piece-item.is))
    ∙ flat_map-append (λ (y : Piece). content_of p y.chain) (take i pieces) (x ∷ [])
    ∙ ap (λ (bytes : List ℕ). front ++ bytes) (flat_map-cons (λ (y : Piece). content_of p y.chain) x [] ∙ append-nil (content_of p x.chain)) in
    let len : length (content_of p x.chain) ≡ x.chain.len = c.requires.whole x (subst (λ y. Contains pieces y) (sym c.piece-item.is) (Contains-get_or pieces i x there)) in
    record {
      read = c.read_onto.ensures.content
          ∙ range-more front (content_of p x.chain) c.args.bytes.now.items c.loop-piece.bytes.items c.args.offset c.args.count _ c.loop-piece.skipped c.loop-piece.invariant.read c.loop-piece.invariant.skipped
          (omega (arith, c.len.ensures, c.len-in-loop-piece.ensures, c.args.bytes.now.ok.0, c.loop-piece.bytes.ok.0))
          ∙ ap (λ (bytes : List ℕ). c.args.bytes.now.items ++ take c.args.count (drop c.args.offset bytes)) (sym more);
      skipped = omega (arith, c.saturating_sub-skipped.ensures, c.len-in-loop-piece-2.ensures.value, c.loop-piece.invariant.skipped, len, ap (λ (bytes : List ℕ). length bytes) more, length-append front (content_of p x.chain));
      room = omega (arith, c.loop-piece.invariant.room, c.read_onto.ensures.room_kept);
    }
