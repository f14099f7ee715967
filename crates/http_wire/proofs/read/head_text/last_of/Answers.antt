use Rattle.std.proofs.Common.{◌≡◌, [], ◌∷◌, ◌++◌, ap, sym}
use Rattle.http_wire.specs.declared.read.head_text.Scan.{Scan}
use Rattle.http_wire.proofs.ScanLemmas.{scanned-last}
use Rattle.http_wire.proofs.read.head_text.last_of.Goals as goal

pub returns-in-Some : goal.returns-in-Some
returns-in-Some c s is =
    let byte = c.in-Some.byte.now in
    let whole : c.args.bytes.now ≡ c.in-Some.field-0-1.now ++ byte ∷ [] = c.in-Some.ensures.cases.0 in
    rw whole (sym (ap (λ (t : Scan). t.last) (scanned-last s c.in-Some.field-0-1.now byte)))
