use Rattle.std.proofs.Common.{ap, refl, ◌∙◌, arith}
use Rattle.std.specs.List.{sum}
use Rattle.upload_book.specs.Book.{plain_of}
use Rattle.upload_book.specs.contracts.book.Book.{the_view}
use Rattle.upload_book.proofs.Heads.LineLemmas.{accounts-swept, charges-swept, swept-small, swept-total}
use Rattle.upload_book.proofs.book.Book.accounts_swept.Goals as goal

pub total-requires : goal.total-requires
total-requires c =
    let b = the_view c.self.inside in
    let is = c.charges_swept-charge.ensures ∙ charges-swept b c.args.now c.self.invariant in
    omega (arith, swept-small (plain_of b) c.args.now c.self.invariant.lawful, ap sum is)

pub overflow_sub-released : goal.overflow_sub-released
overflow_sub-released c =
    let b = the_view c.self.inside in
    let is = c.charges_swept-charge.ensures ∙ charges-swept b c.args.now c.self.invariant in
    omega (arith, swept-total (plain_of b) c.args.now c.self.invariant.lawful, ap sum is, c.total.ensures)

pub returns : goal.returns
returns c =
    let b = the_view c.self.inside in
    let is = c.charges_swept-charge.ensures ∙ charges-swept b c.args.now c.self.invariant in
    rw (← c.self.view_is) (accounts-swept (plain_of b) c.args.now c.total.result _ c.charges_swept-charge.result c.self.invariant.lawful is c.total.ensures refl)
