use Rattle.std.proofs.Common.{◌+◌, ◌-◌, ◌<◌, ℕ, length, set, ap₂, refl, subst, ◌∙◌, arith}
use Rattle.upload_book.specs.Book.{IsBook, plain_of}
use Rattle.upload_book.specs.declared.board_line.Accounts.{Accounts}
use Rattle.upload_book.specs.Heads.{accounts_of}
use Rattle.upload_book.proofs.Heads.LineLemmas.{accounts-with, tenants-few, tenants-settings}
use Rattle.upload_book.proofs.book.Book.accounts_where.Goals as goal

pub returns : goal.returns
returns c part pays =
    let b = plain_of c.args.self.now in
    let lawful = (subst IsBook c.self.view_is c.self.invariant).lawful in
    let told : Accounts → ℕ → Accounts = λ a t. record { charged = a.charged + (c.args.charge - c.charge-before.result); released = a.released + (c.charge-before.result - c.args.charge); charge = set a.charge t c.args.charge } in
    let there : c.args.tenant < length b.tenants = omega (arith, c.requires.tenant_there, tenants-settings b lawful) in
    let few : c.args.tenant < 16 = omega (arith, c.requires.tenant_there, tenants-settings b lawful, tenants-few b lawful) in
    rw (c.saturating_sub.ensures, c.saturating_sub-2.ensures)
    (ap₂ told c.accounts-accounts.ensures c.from-place.ensures
    ∙ accounts-with b c.args.tenant c.args.charge c.charge-before.result part (accounts_of b).charge there few pays c.charge-before.ensures refl)
