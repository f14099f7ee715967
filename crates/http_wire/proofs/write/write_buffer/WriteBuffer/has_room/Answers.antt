use Rattle.std.proofs.Common.{rules, ◌≡◌, false}
use Rattle.std.proofs.lemmas.Bool.{OnFalse_from}
use Rattle.http_wire.proofs.SendLemmas.{pending-unless-room}
use Rattle.http_wire.proofs.write.write_buffer.WriteBuffer.has_room.Goals as goal

pub returns-then-is_none-clause-some : goal.returns-then-is_none-clause-some
returns-then-is_none-clause-some c =
    OnFalse_from _ _ (λ long.
    let full : c.args.self.now.has_room ≡ false = search rules in
    pending-unless-room _ _ _ _ c.self.invariant c.self.view_is full)

pub returns-else-is_none-clause-some : goal.returns-else-is_none-clause-some
returns-else-is_none-clause-some c =
    OnFalse_from _ _ (λ follows.
    let full : c.args.self.now.has_room ≡ false = search rules in
    pending-unless-room _ _ _ _ c.self.invariant c.self.view_is full)
