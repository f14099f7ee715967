use Rattle.upload_book.specs.inside.ChargeAfter.{left_beside, sources_kept}
use Rattle.upload_book.proofs.Charge.ChargeAfterLemmas.{IsReleasedTo}
use Rattle.upload_book.proofs.stored_tenant.StoredTenant.released.Given as goal

-- what the pieces before this one release was found
abbrev pub invariant-loop-piece : goal.invariant-loop-piece
invariant-loop-piece l =
    IsReleasedTo l.size l.self.next l.upload.kept.pieces (sources_kept (left_beside l.ended.at l.self.uploads.items l.place)) l.piece l.released
