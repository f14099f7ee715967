use Rattle.std.proofs.Common.{◌≡◌, ℕ, List, map, take}
use Rattle.book_replay.specs.Snapshot.{behind_room}
use Rattle.journal_frames.specs.Frames.{frames}
use Rattle.journal_folders.proofs.renewing.frames_of.Given as goal

-- the frames of the first records were put
abbrev pub invariant-loop-room : goal.invariant-loop-room
invariant-loop-room l = (records : List (List ℕ)) → map (λ room. room.items) l.rooms ≡ map behind_room records → l.bytes.items ≡ frames 8391740119571199346 (take l.room-index records)
