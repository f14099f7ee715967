use Rattle.std.proofs.Common.{◌≡◌, ◌<◌, ◌≤◌, ◌-◌, ◌^◌, ℕ, drop, length, min}
use Rattle.access_log.specs.Telling.{reply_bytes}
use Rattle.access_log.proofs.seen.Record.sent_among.Given as goal

-- what the replies from this place on have, and that from no later place they have all that is not sent
abbrev pub invariant-loop-place : goal.invariant-loop-place
invariant-loop-place l = record {
  within : l.place ≤ length l.self.answered.items;
  behind : l.behind ≡ min (reply_bytes (drop l.place l.self.answered.items)) (2 ^ 64 - 1);
  no_more : (more : ℕ) → l.place < more → more ≤ length l.self.answered.items → reply_bytes (drop more l.self.answered.items) < l.unsent;
}
