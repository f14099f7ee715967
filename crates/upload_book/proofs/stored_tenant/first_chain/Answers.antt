use Rattle.std.proofs.Common.{◌+◌, List, drop, sym, ap, ◌∙◌}
use Rattle.std.specs.List.{flat_map}
use Rattle.upload_book.specs.declared.pieces.Piece.{Piece}
use Rattle.upload_book.specs.inside.FinalBack.{chain_from}
use Rattle.upload_book.proofs.Restoring.FinalFound.{chain_from-found, chain_from-later, pieces-from}
use Rattle.upload_book.proofs.Store.Pieces.{kept_pieces}
use Rattle.upload_book.proofs.stored_tenant.first_chain.Goals as goal

pub returns-in-Some : goal.returns-in-Some
returns-in-Some c =
    let items = c.args.uploads.now in
    let here = pieces-from items c.loop-place.place c.index-uploads-place.result c.loop-place-test.true c.index-uploads-place.is in
    sym (chain_from-found c.index-uploads-place.result.kept.pieces (flat_map kept_pieces (drop (c.loop-place.place + 1) items)) c.args.origin c.in-Some.chain.now (sym c.in-Some.ensures))
    ∙ ap (λ (pieces : List Piece). chain_from pieces c.args.origin) (sym here) ∙ c.loop-place.invariant

pub loop-place-preserved : goal.loop-place-preserved
loop-place-preserved c =
    let items = c.args.uploads.now in
    let here = pieces-from items c.loop-place.place c.index-uploads-place.result c.loop-place-test.true c.index-uploads-place.is in
    sym (chain_from-later c.index-uploads-place.result.kept.pieces (flat_map kept_pieces (drop (c.loop-place.place + 1) items)) c.args.origin (sym c.in_default.ensures))
    ∙ ap (λ (pieces : List Piece). chain_from pieces c.args.origin) (sym here) ∙ c.loop-place.invariant
