use Rattle.std.proofs.Common.{◌≡◌, ◌≤◌, [], length, take, vec_len, vec_capacity}
use Rattle.std.specs.List.{AllZip}
use Rattle.tus_shared.proofs.work.room_for.Given as goal

abbrev pub invariant-loop-batch : goal.invariant-loop-batch
invariant-loop-batch l =
    (vec_len l.replies ≡ l.batch-index)
    × (length l.batches ≤ vec_capacity l.replies)
    × AllZip (λ batch room. (room.items ≡ []) × (length batch.now ≤ vec_capacity room)) (take l.batch-index l.batches) l.replies.items
