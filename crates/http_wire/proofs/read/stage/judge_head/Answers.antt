use Rattle.std.proofs.Common.{refl}
use Rattle.http_wire.specs.NextMessage.{refused}
use Rattle.http_wire.proofs.NextMessageLemmas.{BeginsHead-found, IsNextMessage-refused}
use Rattle.http_wire.proofs.read.stage.judge_head.Goals as goal

pub returns-in-Ok-clause-head : goal.returns-in-Ok-clause-head
returns-in-Ok-clause-head c =
    let within = rw c.in-Whole.is at c.requires.held in
    λ bytes found. BeginsHead-found c.args.limits bytes c.args.read_buffer.now.held c.held.result.now c.in-Whole.len c.in-Ok.layout
    c.held.ensures.bytes within.0 c.in-Ok.ensures.within.head c.in-Ok.ensures.gives (rw c.in-Whole.is at found)

pub returns-in-Ok-clause-whole : goal.returns-in-Ok-clause-whole
returns-in-Ok-clause-whole c = c.in-Ok.ensures.gives.1.2.created

pub returns-in-Err-clause-comes : goal.returns-in-Err-clause-comes
returns-in-Err-clause-comes c bytes found =
    let refusal = c.in-Err.refused in (
      refl,
      IsNextMessage-refused c.args.limits bytes c.args.read_buffer.now.held c.held.result.now c.in-Whole.len (refused refusal.refusal refusal.framing) c.held.ensures.bytes c.in-Err.ensures.gives (rw c.in-Whole.is at found),
    )
