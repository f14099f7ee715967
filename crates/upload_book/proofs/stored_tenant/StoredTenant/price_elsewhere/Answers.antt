use Rattle.std.proofs.Common.{◌≡◌, ◌<◌, ℕ, Some, get_or, length, sym, subst, ap, ◌∙◌, arith}
use Rattle.std.proofs.lemmas.Bool.{false≢true}
use Rattle.std.proofs.lemmas.List.{get_or_default}
use Rattle.block_pool.specs.Blocks.{Blocks, count_at, places_of}
use Rattle.block_pool.proofs.BlocksLaws.{below_size}
use Rattle.upload_book.specs.declared.pieces.Piece.{Piece}
use Rattle.upload_book.specs.inside.ChargeAfter.{left_beside, price_elsewhere, sources_kept, AreCounted}
use Rattle.upload_book.specs.inside.Kept.{stored_tenant_of}
use Rattle.upload_book.specs.inside.Pieces.{no_chain}
use Rattle.upload_book.specs.Stored.{StoredUpload, StoredTenant, block_at, pieces_of}
use Rattle.upload_book.specs.TenantBook.{Entry}
use Rattle.upload_book.proofs.Charge.InUse.{places-within}
use Rattle.upload_book.proofs.Charge.PriceElsewhere.{alone-elsewhere, counted-least, first-stands, shared-piece}
use Rattle.upload_book.proofs.Store.Pieces.{Contains-entry}
use Rattle.upload_book.proofs.stored_tenant.StoredTenant.price_elsewhere.Goals as goal

-- the piece at a place of an upload
abbrev piece_at : Entry StoredUpload → ℕ → Piece
piece_at e piece = get_or e.kept.pieces piece (record { origin = 0; chain = no_chain })

-- the block that was read stands in the piece
stands : (e : Entry StoredUpload) (piece b : ℕ) → block_at e.kept piece 0 ≡ Some b → piece < length e.kept.pieces → 0 < places_of b (piece_at e piece).chain.blocks
stands e piece b is within = first-stands e.kept piece b (piece_at e piece) is within (get_or_default e.kept.pieces piece (record { origin = 0; chain = no_chain }) (piece_at e piece) within)

-- it is one of the pool
block-there : (p : Blocks) (old : StoredTenant) (i piece b : ℕ) (e : Entry StoredUpload) → AreCounted p old → i < length old.uploads → e ≡ get_or old.uploads i e → block_at e.kept piece 0 ≡ Some b → piece < length e.kept.pieces → 0 < count_at p b
block-there p old i piece b e are there read is within =
    let read_piece = get_or_default e.kept.pieces piece (record { origin = 0; chain = no_chain }) (piece_at e piece) within in
    omega (arith, stands e piece b is within, counted-least p old are b, places-within b (pieces_of old) (piece_at e piece) (Contains-entry old i e (piece_at e piece) (record { within = there; read = read }) (piece, within, sym read_piece)))

pub count-requires : goal.count-requires
count-requires c =
    let e : Entry StoredUpload = c.index-upload.result.now in
    let within : c.args.piece < length e.kept.pieces = subst (λ (d : Entry StoredUpload). c.args.piece < length d.kept.pieces) (sym c.index-upload.ensures) (c.requires.piece e) in
    below_size c.args.pool.now c.in-Some.block
    (block-there c.args.pool.now (stored_tenant_of c.args.self.now) c.args.place c.args.piece c.in-Some.block e c.requires.counted c.requires.place c.index-upload.ensures (sym c.block.ensures ∙ c.in-Some.is) within)

pub returns-then-count-eq1 : goal.returns-then-count-eq1
returns-then-count-eq1 c = λ d x.
    let t : StoredTenant = stored_tenant_of c.args.self.now in
    let e : Entry StoredUpload = c.index-upload.result.now in
    let piece = c.args.piece in
    let none : Piece = record { origin = 0; chain = no_chain } in
    let within : piece < length e.kept.pieces = subst (λ (d : Entry StoredUpload). piece < length d.kept.pieces) (sym c.index-upload.ensures) (c.requires.piece e) in
    let is = sym c.block.ensures ∙ c.in-Some.is in
    let alone = alone-elsewhere c.args.pool.now t c.args.place piece c.args.size c.in-Some.block c.args.ended.now.at e (piece_at e piece) c.requires.counted (record { within = c.requires.place; read = c.index-upload.ensures }) within
    (get_or_default e.kept.pieces piece none (piece_at e piece) within) (stands e piece c.in-Some.block is within) (sym c.count.ensures ∙ c.if-count-eq1.true) in
    let others = sources_kept (left_beside c.args.ended.now.at c.args.self.now.uploads.items c.args.place) in
    let zero : price_elsewhere c.args.size e.kept.pieces piece others (get_or e.kept.pieces piece x).origin ≡ 0 =
    ap (λ (y : Piece). price_elsewhere c.args.size e.kept.pieces piece others y.origin) (get_or_default e.kept.pieces piece x none within) ∙ alone in
    subst (λ (u : Entry StoredUpload). 0 ≡ price_elsewhere c.args.size u.kept.pieces piece others (get_or u.kept.pieces piece x).origin)
    (c.index-upload.ensures ∙ get_or_default c.args.self.now.uploads.items c.args.place e d c.requires.place) (sym zero)

pub returns-then-not-is_final : goal.returns-then-not-is_final
returns-then-not-is_final c = λ d x.
    let t : StoredTenant = stored_tenant_of c.args.self.now in
    let e : Entry StoredUpload = c.index-upload.result.now in
    let piece = c.args.piece in
    let within : piece < length e.kept.pieces = subst (λ (d : Entry StoredUpload). piece < length d.kept.pieces) (sym c.index-upload.ensures) (c.requires.piece e) in
    let others = sources_kept (left_beside c.args.ended.now.at c.args.self.now.uploads.items c.args.place) in
    let shared = shared-piece c.args.pool.now t c.args.place piece c.args.size c.in-Some.block c.args.ended.now.at e c.requires.counted (record { within = c.requires.place; read = c.index-upload.ensures }) (c.requires.finals c.if-ended.true)
    (λ final. false≢true (sym c.if-not-is_final.true ∙ c.is_final.ensures.1 final)) within (sym c.block.ensures ∙ c.in-Some.is) (λ one. c.if-count-eq1.false (c.count.ensures ∙ one)) x in
    subst (λ (u : Entry StoredUpload). c.blocks-then-not-is_final.result ≡ price_elsewhere c.args.size u.kept.pieces piece others (get_or u.kept.pieces piece x).origin)
    (c.index-upload.ensures ∙ get_or_default c.args.self.now.uploads.items c.args.place e d c.requires.place) (c.blocks-then-not-is_final.ensures x ∙ shared)
