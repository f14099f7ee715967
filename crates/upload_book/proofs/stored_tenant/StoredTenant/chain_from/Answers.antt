use Rattle.std.proofs.Common.{List, ap, take_all, ◌∙◌, arith}
use Rattle.std.specs.List.{flat_map}
use Rattle.upload_book.specs.inside.FinalBack.{chain_from}
use Rattle.upload_book.specs.Stored.{StoredUpload}
use Rattle.upload_book.specs.TenantBook.{Entry}
use Rattle.upload_book.proofs.Store.Pieces.{kept_pieces}
use Rattle.upload_book.proofs.stored_tenant.StoredTenant.chain_from.Goals as goal

pub returns : goal.returns
returns c =
    let uploads = c.args.self.now.uploads.items in
    c.first_chain.ensures ∙ c.since.ensures
    ∙ ap (λ (l : List (Entry StoredUpload)). chain_from (flat_map kept_pieces l) c.args.origin) (take_all c.len.result uploads (omega (arith, c.len.ensures, c.args.self.now.uploads.ok.0)))
