use Rattle.std.proofs.Common.{◌≡◌, ◌-◌, ◌+◌, None, Some, take, drop, arith, refl, sym, ◌∙◌, subst}
use Rattle.memchr.specs.Find.{IsFirstByte, is_byte}
use Rattle.http_wire.specs.inside.Scan.{scanned}
use Rattle.http_wire.proofs.ScanLemmas.{ends_here, ends_nowhere, goes_on, rest_whole}
use Rattle.http_wire.proofs.read.head_text.Scan.end_in.Goals as goal

pub returns-then-ends_empty_line-clause-end : goal.returns-then-ends_empty_line-clause-end
returns-then-ends_empty_line-clause-end c =
    let bytes = c.args.bytes.now in
    let seen = c.loop-more.seen in
    let more = c.in-Some.more in
    let first : IsFirstByte (is_byte 10) (drop seen bytes) (Some more) = subst (λ l. IsFirstByte (is_byte 10) l (Some more)) (rest_whole seen bytes) c.in-Some.ensures in
    let part : (seen + more) - seen ≡ more = omega arith in
    let passed = subst (λ k. c.pass.new.self ≡ scanned c.loop-more.self (take k (drop seen bytes))) part c.pass.ensures in
    sym (ends_here c.args.self.now bytes c.loop-more.self seen c.loop-more.invariant more first c.pass.new.self passed (sym c.ends_empty_line.ensures ∙ c.if-ends_empty_line.true))

pub loop-more-preserved : goal.loop-more-preserved
loop-more-preserved c =
    let bytes = c.args.bytes.now in
    let seen = c.loop-more.seen in
    let more = c.in-Some.more in
    let first : IsFirstByte (is_byte 10) (drop seen bytes) (Some more) = subst (λ l. IsFirstByte (is_byte 10) l (Some more)) (rest_whole seen bytes) c.in-Some.ensures in
    let part : (seen + more) - seen ≡ more = omega arith in
    let passed = subst (λ k. c.pass.new.self ≡ scanned c.loop-more.self (take k (drop seen bytes))) part c.pass.ensures in
    goes_on c.args.self.now bytes c.loop-more.self seen c.loop-more.invariant more first c.pass.new.self passed (sym c.ends_empty_line.ensures ∙ c.if-ends_empty_line.false) (seen + (more + 1)) refl

pub returns-clause-end : goal.returns-clause-end
returns-clause-end c =
    let bytes = c.args.bytes.now in
    let seen = c.loop-more.seen in
    let none : IsFirstByte (is_byte 10) (drop seen bytes) None = subst (λ l. IsFirstByte (is_byte 10) l None) (rest_whole seen bytes) c.in_default.ensures in
    sym (ends_nowhere c.args.self.now bytes c.loop-more.self seen c.loop-more.invariant none)
