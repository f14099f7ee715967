use Rattle.std.proofs.Common.{◌≡◌, drop}
use Rattle.std.specs.List.{list_all}
use Rattle.block_pool.specs.Blocks.{Blocks}
use Rattle.upload_book.specs.inside.Kept.{stored_tenant_of}
use Rattle.upload_book.specs.inside.Pieces.{ReadsWhole}
use Rattle.upload_book.specs.snapshot.Restore.{may_be_part}
use Rattle.upload_book.specs.snapshot.Restored.{RestoredSegment}
use Rattle.upload_book.specs.Stored.{part_of, pieces_of}
use Rattle.upload_book.proofs.stored_tenant.StoredTenant.may_be_parts.Given as goal

-- what the rest tells is what all tell
abbrev pub invariant-loop-place : goal.invariant-loop-place
invariant-loop-place l =
    (p : Blocks) → ReadsWhole p (pieces_of (stored_tenant_of l.self))
    → list_all (λ (s : RestoredSegment). may_be_part (part_of p (stored_tenant_of l.self)) s.origin) (drop l.place l.segments) ≡ list_all (λ (s : RestoredSegment). may_be_part (part_of p (stored_tenant_of l.self)) s.origin) l.segments
