use Rattle.std.proofs.Common.{◌-◌, ◌≤◌, length, take}
use Rattle.std.specs.List.{FoldsTo}
use Rattle.turn_lists.specs.Lists.{Lists, keys_of}
use Rattle.turn_lists.specs.Rounds.{HasTurn, IsRound}
use Rattle.turn_lists.proofs.lists.TurnLists.take_round.Given as goal

-- those that are left of the list as the round began stand on it first, and their turns complete the round
abbrev pub invariant-loop : goal.invariant-loop
invariant-loop g l = record {
  callable : goal.F-IsAlwaysCallable g l.turn;
  within : l.end - l.counter ≤ length (keys_of l.self l.list);
  completes : (last : _) (new : Lists) → FoldsTo (HasTurn (goal.F-step g) l.list) (l.turn, l.self) (take (l.end - l.counter) (keys_of l.self l.list)) (last, new)
      → IsRound (goal.F-step g) l.list l.fn.turn l.fn.self last new;
}
