use Rattle.std.proofs.Common.{◌≡◌, ◌<◌, ◌≤◌, ◌+◌, ◌++◌, length, arith, append-nil, ap, sym, ◌∙◌}
use Rattle.percent_encoding.specs.Percent.{percent_encode}
use Rattle.std.proofs.lemmas.List.{length-append}
use Rattle.std.proofs.lemmas.List.Elements.{All-from_get_or}
use Rattle.http_wire.specs.declared.write.file.TheConstants.{ESCAPED}
use Rattle.http_wire.proofs.FileLemmas.{name-length, names_agree, piece-fits}
use Rattle.http_wire.proofs.write.file.put_escaped.Goals as goal

pub put-requires : goal.put-requires
put-requires c =
    let bytes = All-from_get_or (λ b. b < 256) c.args.name.now 0 (λ i within. omega (arith, c.type_inv.name i)) in
    let whole = rw (c.in-Some.ensures.steps, ← c.as_bytes.ensures.value) at c.loop-piece.invariant in
    let fits = piece-fits c.loop-piece.page c.as_bytes.result.now _ c.args.page.now c.args.name.now whole bytes c.requires.name in
    omega (arith, fits, c.requires.room)

pub returns-clause-text : goal.returns-clause-text
returns-clause-text c =
    let bytes = All-from_get_or (λ b. b < 256) c.args.name.now 0 (λ i within. omega (arith, c.type_inv.name i)) in
    rw (← names_agree c.args.name.now bytes) (rw (c.in-None.ensures.steps, append-nil) at c.loop-piece.invariant)

pub returns-clause-len : goal.returns-clause-len
returns-clause-len c =
    let bytes = All-from_get_or (λ b. b < 256) c.args.name.now 0 (λ i within. omega (arith, c.type_inv.name i)) in
    let whole : c.loop-piece.page ≡ c.args.page.now ++ percent_encode ESCAPED c.args.name.now = rw (c.in-None.ensures.steps, append-nil) at c.loop-piece.invariant in
    omega (arith, ap length whole, length-append c.args.page.now (percent_encode ESCAPED c.args.name.now), name-length c.args.name.now bytes c.requires.name)
