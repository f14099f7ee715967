use Rattle.std.proofs.Common.{◌<◌, ◌+◌, ◌++◌, arith, refl, sym, ◌∙◌, subst}
use Rattle.http_wire.specs.NextMessage.{IsNextMessage, refused, sure_room}
use Rattle.http_wire.specs.declared.refusal.WireRefusal.TheVariants.{Memory}
use Rattle.http_wire.proofs.AheadLemmas.{OnErr-known}
use Rattle.http_wire.proofs.NextMessageLemmas.{IsNextMessage-memory}
use Rattle.http_wire.proofs.read.stage.make_room.Goals as goal

pub returns-then-is_err-clause-comes : goal.returns-then-is_err-clause-comes
returns-then-is_err-clause-comes c limits bytes b =
    let large : sure_room < c.args.layout.now.head_len + c.args.gathered = OnErr-known c.reserve.result (sym c.is_err.ensures.value ∙ c.if-is_err.true) c.reserve.ensures.sure in (
      refl,
      λ rest.
          subst (λ x. IsNextMessage limits (bytes ++ rest) (refused Memory x)) (sym c.closing.ensures) (IsNextMessage-memory limits bytes c.args.layout.now c.args.read_buffer.now.held b rest c.requires.held (omega (arith, c.requires.head, c.requires.gathered, large)) (omega (arith, c.requires.gathered, large))),
    )
