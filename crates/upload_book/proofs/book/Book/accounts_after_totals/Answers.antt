use Rattle.std.proofs.Common.{ℕ, ap, ap₂, sym, ◌∙◌}
use Rattle.upload_book.specs.Book.{plain_of}
use Rattle.upload_book.specs.declared.board_line.Accounts.{Accounts}
use Rattle.upload_book.specs.declared.restored.Restored.TheVariants as piece
use Rattle.upload_book.specs.Heads.{accounts_of}
use Rattle.upload_book.proofs.Restoring.NextSteps.{after-none}
use Rattle.upload_book.proofs.book.Book.accounts_after_totals.Goals as goal

pub returns : goal.returns
returns c =
    let r = c.args.ready.now in
    let b = plain_of c.args.self.now in
    let told : ℕ → Accounts → Accounts = λ charged accounts. record { charged = charged; released = r.released; charge = accounts.charge } in
    ap₂ told c.charged_with.ensures c.accounts-accounts.ensures ∙ ap accounts_of (sym (after-none b (piece.Totals r.released) c.requires))
