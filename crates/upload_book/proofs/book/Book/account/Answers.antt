use Rattle.std.proofs.Common.{ℕ, ap₂, sym}
use Rattle.upload_book.specs.contracts.book.Book.{the_view}
use Rattle.upload_book.specs.declared.board_line.Account.{Account}
use Rattle.upload_book.proofs.Steps.BookSteps.{part-quota}
use Rattle.upload_book.proofs.book.Book.account.Goals as goal

pub returns : goal.returns
returns c =
    let b = the_view c.self.inside in
    let quota = part-quota b c.args.tenant c.quota.result c.self.invariant (rw c.from.ensures at c.quota.ensures) in
    let account : ℕ → ℕ → Account = λ charge quota. record { charge = charge; quota = quota; charged = b.charged } in
    rw (← c.self.view_is) (ap₂ account (rw (← c.self.view_is) at c.charge.ensures) (sym quota))
