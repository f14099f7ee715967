use Rattle.std.proofs.Common.{rules, ◌≡◌, [], sym, ◌∙◌}
use Rattle.std.proofs.lemmas.Bool.{OnFalse_from}
use Rattle.http_wire.proofs.SendLemmas.{nil-left}
use Rattle.http_wire.proofs.write.write_buffer.WriteBuffer.is_empty.Goals as goal

pub returns-clause-some : goal.returns-clause-some
returns-clause-some c =
    let next_message = c.pending.ensures.prefix in
    OnFalse_from c.is_empty.result _ (λ unempty none.
    let blank : c.pending.result.now ≡ [] = nil-left c.pending.result.now next_message.0 (sym next_message.1 ∙ none) in
    search rules)
