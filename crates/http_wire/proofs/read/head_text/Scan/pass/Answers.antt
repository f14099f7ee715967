use Rattle.std.proofs.Common.{◌≡◌, ℕ, [], ◌∷◌, ◌++◌, ap, refl, sym, ◌∙◌}
use Rattle.http_wire.proofs.ScanLemmas.{scanned-last}
use Rattle.http_wire.proofs.read.head_text.Scan.pass.Goals as goal

pub returns-in-Some : goal.returns-in-Some
returns-in-Some c =
    let last = c.in-Some.last.now in
    let whole : c.args.bytes.now ≡ c.in-Some.others.now ++ last ∷ [] = c.in-Some.ensures.cases.0 in
    rw whole (ap (λ (b : ℕ). record { before = b; last = last }) (c.last_of-self.ensures c.args.self.now refl) ∙ sym (scanned-last c.args.self.now c.in-Some.others.now last))
