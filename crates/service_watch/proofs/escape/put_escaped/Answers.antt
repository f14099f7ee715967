use Rattle.std.proofs.Common.{◌<◌, arith, append-nil}
use Rattle.std.proofs.lemmas.List.Elements.{All-from_get_or}
use Rattle.service_watch.proofs.EscapeLemmas.{texts_agree}
use Rattle.service_watch.proofs.escape.put_escaped.Goals as goal

pub returns : goal.returns
returns c =
    let bytes = All-from_get_or (λ b. b < 256) c.args.text.now 0 (λ i within. omega (arith, c.type_inv.text i)) in
    rw (← texts_agree c.args.text.now bytes) (rw (c.in-None.ensures.steps, append-nil) at c.loop-piece.invariant)
