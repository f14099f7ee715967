use Rattle.std.proofs.Common.{sym, ◌∙◌}
use Rattle.upload_book.specs.inside.Kept.{stored_tenant_of}
use Rattle.upload_book.specs.Stored.{pieces_of}
use Rattle.upload_book.proofs.Restoring.FinalFound.{chain_from-found, chain_from-later}
use Rattle.upload_book.proofs.stored_tenant.StoredTenant.standing.Goals as goal

pub returns-in-Some : goal.returns-in-Some
returns-in-Some c = sym (chain_from-found (pieces_of (stored_tenant_of c.args.self.now)) c.args.pieces.now c.args.origin c.in-Some.chain.now (sym c.in-Some.ensures))

pub returns-in-None : goal.returns-in-None
returns-in-None c = c.chain_from-in-None.ensures ∙ sym (chain_from-later (pieces_of (stored_tenant_of c.args.self.now)) c.args.pieces.now c.args.origin (sym c.in-None.ensures))
