use Rattle.std.proofs.Common.{◌≡◌, ◌≢◌, ◌<◌, drop, get_or, length, sym, arith}
use Rattle.std.proofs.lemmas.Bool.Decides.{nat_tests}
use Rattle.std.proofs.lemmas.List.{take_rest, length-drop}
use Rattle.tus_text.specs.declared.path.Path.TheVariants.{Upload}
use Rattle.tus_text.specs.Path.{id}
use Rattle.tus_text_tests.proofs.PlainLemmas.{tail-id, no_tail}
use Rattle.tus_text_tests.proofs.plain.path.plain_tail.Goals as goal

pub returns-in_err-id-clause-none : goal.returns-in_err-id-clause-none
returns-in_err-id-clause-none c =
    let tail = c.args.tail.now in
    let digits = take_rest tail 1 in
    let empty = rw digits at c.is_empty-2.ensures in
    let some : 0 < length (drop 1 tail) = grind (arith, nat_tests) in
    let none = rw digits at c.in_err-id.ensures in
    rw c.from_residual.ensures (no_tail tail (omega (arith, length-drop 1 tail, some)) (sym none))

pub returns-clause-some : goal.returns-clause-some
returns-clause-some c =
    let tail = c.args.tail.now in
    let digits = take_rest tail 1 in
    let number = rw digits at c.in_ok-id.ensures in
    let some : 0 < length tail = grind (arith, nat_tests) in
    let begins : get_or tail 0 0 ≡ 47 = grind arith in
    let first : get_or (drop 1 tail) 0 0 ≢ 48 = rw digits at c.if-digits-eq48.false in
    let read = tail-id tail c.in_ok-id.id some begins first (sym number) in
    (id (drop 1 tail), read.0, read.1, λ i. Upload (c.of-tenant.ensures i) (read.2 i))
