use Rattle.std.proofs.Common.{◌≡◌, ◌+◌, ℕ, List, ◌++◌, map, take}
use Rattle.std.specs.List.{AllByRecursion}
use Rattle.journal_file.specs.Appending.{frames_each, total_len}
use Rattle.journal_file.specs.Journal.{key_of, room_of, IsJournal}
use Rattle.journal_frames.specs.Frames.{Fits}
use Rattle.journal_file.proofs.journal.Journal.append_each.Given as goal

-- the first frames were appended
abbrev pub invariant-loop-frame : goal.invariant-loop-frame
invariant-loop-frame g l = record {
  key : key_of l.self ≡ key_of l.fn.self;
  room : room_of l.self + total_len (take l.frame-index (map (λ frame. frame.items) l.frames)) ≡ room_of l.fn.self;
  appended : (synced unsynced more : List (List ℕ)) → IsJournal l.fn.self synced unsynced → AllByRecursion Fits more → map (λ frame. frame.items) l.frames ≡ frames_each (key_of l.fn.self) more → IsJournal l.self synced (unsynced ++ take l.frame-index more);
}
