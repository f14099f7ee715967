use Rattle.std.proofs.Common.{All}
use Rattle.block_pool.specs.Blocks.{Blocks}
use Rattle.upload_book.specs.inside.Kept.{stored_tenant_of}
use Rattle.upload_book.specs.inside.Pieces.{HasOwnPiece, ReadsWhole}
use Rattle.upload_book.specs.Stored.{pieces_of}
use Rattle.upload_book.proofs.Restoring.FinalFound.{IsLeft, sent_pieces}
use Rattle.upload_book.proofs.stored_tenant.StoredTenant.left.Given as goal

-- so much is left where the segments before this one are had
abbrev pub invariant-loop-place : goal.invariant-loop-place
invariant-loop-place l =
    (p : Blocks) → All HasOwnPiece (stored_tenant_of l.self).uploads → ReadsWhole p (pieces_of (stored_tenant_of l.self)) → IsLeft (sent_pieces p (pieces_of (stored_tenant_of l.self))) l.segments l.place l.fn.limits l.size l.left
