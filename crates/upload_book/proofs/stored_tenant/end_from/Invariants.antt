use Rattle.std.proofs.Common.{◌≡◌, ◌+◌, ◌-◌, ◌≤◌, drop, take, length}
use Rattle.std.specs.List.{flat_map}
use Rattle.std.specs.Prelude.{All, vec_capacity, vec_len}
use Rattle.block_pool.specs.Blocks.{free_in}
use Rattle.block_bodies.specs.Changes.{GivesBack}
use Rattle.upload_book.specs.inside.Swept.{IsBoxed}
use Rattle.upload_book.specs.Stored.{placed_in}
use Rattle.upload_book.proofs.Store.Pieces.{kept_pieces}
use Rattle.upload_book.proofs.stored_tenant.end_from.Given as goal

-- those behind the ones that still stand have ended
abbrev pub invariant-loop-uploads : goal.invariant-loop-uploads
invariant-loop-uploads l = record {
  from : l.place ≤ length l.uploads.items;
  stands : l.uploads.items ≡ take (length l.uploads.items) l.fn.uploads.items;
  within : length l.uploads.items ≤ length l.fn.uploads.items;
  gives : GivesBack l.initial.pool (placed_in (flat_map kept_pieces (drop (length l.uploads.items) l.fn.uploads.items))) (free_in l.pool - free_in l.initial.pool) l.pool;
  capacity : vec_capacity l.uploads ≡ vec_capacity l.initial.uploads;
  boxes : vec_len l.uploads + vec_len l.spare ≤ vec_len l.initial.uploads + vec_len l.initial.spare;
  each : All IsBoxed l.initial.uploads.items → vec_len l.uploads + vec_len l.spare ≡ vec_len l.initial.uploads + vec_len l.initial.spare;
  spare_room : vec_capacity l.spare ≡ vec_capacity l.initial.spare;
}

abbrev pub decreases-loop-uploads : goal.decreases-loop-uploads
decreases-loop-uploads l = length l.uploads.items
