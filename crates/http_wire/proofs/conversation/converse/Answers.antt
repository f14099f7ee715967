use Rattle.std.proofs.Common.{[], refl}
use Rattle.std.proofs.lemmas.Result.{err_from_is_err_and}
use Rattle.http_wire.specs.declared.fault.WireFault.TheVariants.{Memory}
use Rattle.http_wire.proofs.AheadLemmas.{Appends-none, Consumes-none}
use Rattle.http_wire.proofs.ConversationLemmas.{IfErr-from}
use Rattle.http_wire.proofs.conversation.converse.Goals as goal

pub returns-in_err-connection-clause-breaks : goal.returns-in_err-connection-clause-breaks
returns-in_err-connection-clause-breaks g c =
    let p = err_from_is_err_and c.from_residual.result c.from_residual.ensures.1 in
    IfErr-from _ c.from_residual.result p.0 Memory p.1 p.2 (
      [],
      [],
      Consumes-none (g.R.Source.remaining c.args.reader.now),
      Appends-none (g.W.Sink.contents c.args.writer.now),
      (refl, refl, refl),
    )
