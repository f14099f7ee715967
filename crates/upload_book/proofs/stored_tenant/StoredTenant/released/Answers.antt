use Rattle.std.proofs.Common.{◌≡◌, ◌+◌, ◌-◌, ◌<◌, ℕ, Option, get_or, length, refl, subst, sym, ◌∙◌, arith}
use Rattle.std.proofs.lemmas.List.{get_or_default}
use Rattle.block_bodies.specs.Bodies.{blocks_for}
use Rattle.upload_book.specs.declared.pieces.Piece.{Piece}
use Rattle.upload_book.specs.declared.stored_tenant.StoredTenant.{StoredTenant as KeptTenant}
use Rattle.upload_book.specs.inside.Kept.{stored_tenant_of}
use Rattle.upload_book.specs.inside.ChargeAfter.{left_beside, price_elsewhere, sources_kept, IsPaid}
use Rattle.upload_book.specs.Stored.{StoredUpload}
use Rattle.upload_book.specs.inside.Pieces.{no_chain}
use Rattle.upload_book.specs.TenantBook.{Entry}
use Rattle.upload_book.proofs.Charge.ChargeAfterLemmas.{IsReleasedTo, cost-apart, left_to-le, released-all, released-more}
use Rattle.upload_book.proofs.Store.Pieces.{Contains-entry}
use Rattle.upload_book.proofs.stored_tenant.StoredTenant.released.Goals as goal
use Rattle.upload_book.proofs.stored_tenant.StoredTenant.released.Goals.{then-blocks-gt0, else-blocks-gt0}

-- no piece
abbrev no_piece : Piece
no_piece = record { origin = 0; chain = no_chain }

-- what is found of one piece more
found : (t : KeptTenant) (size place : ℕ) (ended : Option ℕ) (e : Entry StoredUpload) (piece released held blocks more : ℕ) → IsPaid size t → place < length t.uploads.items → e ≡ get_or t.uploads.items place e
    → piece < length e.kept.pieces → held ≡ price_elsewhere size e.kept.pieces piece (sources_kept (left_beside ended t.uploads.items place)) (get_or e.kept.pieces piece no_piece).origin
    → ((d : Piece) → blocks ≡ blocks_for size (get_or e.kept.pieces piece d).chain.len) → more ≡ blocks - held
    → IsReleasedTo size t.next e.kept.pieces (sources_kept (left_beside ended t.uploads.items place)) piece released
    → IsReleasedTo size t.next e.kept.pieces (sources_kept (left_beside ended t.uploads.items place)) (piece + 1) (released + more)
found t size place ended e piece released held blocks more paid there is within is_held takes is_more so_far =
    let x : Piece = get_or e.kept.pieces piece no_piece in
    let read : get_or e.kept.pieces piece no_piece ≡ get_or e.kept.pieces piece (get_or e.kept.pieces piece no_piece) = get_or_default e.kept.pieces piece no_piece (get_or e.kept.pieces piece no_piece) within in
    let given = paid.given (get_or e.kept.pieces piece no_piece) (Contains-entry (stored_tenant_of t) place e (get_or e.kept.pieces piece no_piece) (record { within = there; read = is }) (piece, within, sym read)) in
    rw (is_more, is_held)
    (released-more size t.next e.kept.pieces (sources_kept (left_beside ended t.uploads.items place)) piece released blocks _ _ (get_or e.kept.pieces piece no_piece) within read given (takes no_piece)
    refl refl so_far)

-- what the pieces elsewhere cost, of the upload that was read
elsewhere : (t : KeptTenant) (size place piece held : ℕ) (ended : Option ℕ) (e : Entry StoredUpload) → e ≡ get_or t.uploads.items place e
    → ((d : Entry StoredUpload) (x : Piece) → held ≡ price_elsewhere size (get_or t.uploads.items place d).kept.pieces piece (sources_kept (left_beside ended t.uploads.items place)) (get_or (get_or t.uploads.items place d).kept.pieces piece x).origin)
    → held ≡ price_elsewhere size e.kept.pieces piece (sources_kept (left_beside ended t.uploads.items place)) (get_or e.kept.pieces piece no_piece).origin
elsewhere t size place piece held ended e read is =
    subst (λ (e : Entry StoredUpload). held ≡ price_elsewhere size e.kept.pieces piece (sources_kept (left_beside ended t.uploads.items place)) (get_or e.kept.pieces piece no_piece).origin) (sym read) (is e no_piece)

-- it is within what the tenant pays
fits : (t : KeptTenant) (size place : ℕ) (ended : Option ℕ) (e : Entry StoredUpload) (piece released : ℕ) → IsPaid size t → place < length t.uploads.items → e ≡ get_or t.uploads.items place e
    → IsReleasedTo size t.next e.kept.pieces (sources_kept (left_beside ended t.uploads.items place)) piece released → released < 18446744073709551616
fits t size place ended e piece released paid there is so_far =
    omega (arith, so_far, cost-apart size t.next ended t.uploads.items place e there is, left_to-le size t.next ended t.uploads.items place, paid.charge, paid.fits)

pub price_elsewhere-held-requires-clause-piece : goal.price_elsewhere-held-requires-clause-piece
price_elsewhere-held-requires-clause-piece c =
    λ d. subst (λ (e : Entry StoredUpload). c.loop-piece.piece < length e.kept.pieces) (c.index-upload.ensures ∙ get_or_default c.args.self.now.uploads.items c.args.place c.index-upload.result.now d c.requires.place)
    (omega (arith, c.loop-piece-test.true, c.piece_count-piece-end.ensures))

pub loop-piece-preserved : goal.loop-piece-preserved
loop-piece-preserved c =
    let within : c.loop-piece.piece < length c.index-upload.result.now.kept.pieces = omega (arith, c.loop-piece-test.true, c.piece_count-piece-end.ensures) in
    elim c.if-blocks-gt0.branch [
      | then-blocks-gt0 w ↦
          let next = found c.args.self.now c.args.size c.args.place c.args.ended.now.at c.index-upload.result.now c.loop-piece.piece c.loop-piece.released w.price_elsewhere-held.result c.blocks-blocks.result w.saturating_sub-released.result c.requires.paid c.requires.place c.index-upload.ensures within
          (elsewhere c.args.self.now c.args.size c.args.place c.loop-piece.piece w.price_elsewhere-held.result c.args.ended.now.at c.index-upload.result.now c.index-upload.ensures w.price_elsewhere-held.ensures)
          c.blocks-blocks.ensures w.saturating_sub-released.ensures c.loop-piece.invariant in
          omega (arith, next, w.released-is)
      | else-blocks-gt0 w ↦
          let next = found c.args.self.now c.args.size c.args.place c.args.ended.now.at c.index-upload.result.now c.loop-piece.piece c.loop-piece.released _ c.blocks-blocks.result 0 c.requires.paid c.requires.place c.index-upload.ensures within refl
          c.blocks-blocks.ensures (omega (arith, w.if-blocks-gt0.false)) c.loop-piece.invariant in
          omega (arith, next, w.released-is)
    ]

pub overflow_add-released : goal.overflow_add-released
overflow_add-released c =
    let next = found c.args.self.now c.args.size c.args.place c.args.ended.now.at c.index-upload.result.now c.loop-piece.piece c.loop-piece.released c.price_elsewhere-held.result c.blocks-blocks.result c.saturating_sub-released.result c.requires.paid c.requires.place c.index-upload.ensures
    (omega (arith, c.loop-piece-test.true, c.piece_count-piece-end.ensures))
    (elsewhere c.args.self.now c.args.size c.args.place c.loop-piece.piece c.price_elsewhere-held.result c.args.ended.now.at c.index-upload.result.now c.index-upload.ensures c.price_elsewhere-held.ensures)
    c.blocks-blocks.ensures c.saturating_sub-released.ensures c.loop-piece.invariant in
    let small = fits c.args.self.now c.args.size c.args.place c.args.ended.now.at c.index-upload.result.now (c.loop-piece.piece + 1) (c.loop-piece.released + c.saturating_sub-released.result) c.requires.paid c.requires.place c.index-upload.ensures next in
    omega (arith, small)

pub returns : goal.returns
returns c =
    let t = c.args.self.now in
    released-all c.args.size t.next c.index-upload.result.now.kept.pieces (sources_kept (left_beside c.args.ended.now.at t.uploads.items c.args.place)) c.loop-piece.piece c.loop-piece.released (omega (arith, c.loop-piece-test.false, c.piece_count-piece-end.ensures)) c.loop-piece.invariant
    ∙ cost-apart c.args.size t.next c.args.ended.now.at t.uploads.items c.args.place c.index-upload.result.now c.requires.place c.index-upload.ensures
