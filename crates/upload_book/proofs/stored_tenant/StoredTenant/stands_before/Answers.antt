use Rattle.std.proofs.Common.{is_some, take, get_or, sym, ap, ◌∙◌}
use Rattle.std.specs.List.{flat_map}
use Rattle.std.proofs.lemmas.List.{get_or_read}
use Rattle.upload_book.specs.inside.FinalBack.{chain_from}
use Rattle.upload_book.specs.Stored.{StoredUpload}
use Rattle.upload_book.specs.TenantBook.{Entry}
use Rattle.upload_book.proofs.Restoring.FinalFound.{chain_from-found, chain_from-later}
use Rattle.upload_book.proofs.Store.Pieces.{kept_pieces}
use Rattle.upload_book.proofs.stored_tenant.StoredTenant.stands_before.Goals as goal

pub returns-in-Some : goal.returns-in-Some
returns-in-Some c = λ d.
    let items = c.args.self.now.uploads.items in
    let front = flat_map kept_pieces (take c.args.place items) in
    let rest = take c.args.piece (get_or items c.args.place d).kept.pieces in
    let found = rw (c.in-Some.is) at (c.first_chain.ensures ∙ c.since.ensures) in
    sym (ap is_some (chain_from-found front rest c.args.origin c.in-Some.field-0.now (sym found)))

pub returns-in-None : goal.returns-in-None
returns-in-None c = λ d.
    let items = c.args.self.now.uploads.items in
    let front = flat_map kept_pieces (take c.args.place items) in
    let rest = take c.args.piece (get_or items c.args.place d).kept.pieces in
    let none = rw (c.in-None.is) at (c.first_chain.ensures ∙ c.since.ensures) in
    c.stands_before.ensures
    ∙ ap (λ (e : Entry StoredUpload). is_some (chain_from (take c.args.piece e.kept.pieces) c.args.origin)) (get_or_read items c.args.place c.index.result.now c.requires.there c.index.ensures d)
    ∙ sym (ap is_some (chain_from-later front rest c.args.origin (sym none)))
