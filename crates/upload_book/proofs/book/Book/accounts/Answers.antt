use Rattle.std.proofs.Common.{ℕ, List, ap, ◌∙◌}
use Rattle.std.specs.List.{range_with_len}
use Rattle.upload_book.specs.Book.{plain_of}
use Rattle.upload_book.specs.Charge.{charge_in, charge_with}
use Rattle.upload_book.specs.contracts.book.Book.{the_view}
use Rattle.upload_book.specs.declared.board_line.Accounts.{Accounts}
use Rattle.upload_book.specs.PlainBook.{tenant_book}
use Rattle.upload_book.specs.BlockStore.{part_at}
use Rattle.upload_book.proofs.Steps.BookSteps.{charge-plain_book}
use Rattle.upload_book.proofs.Store.PlainStoredTenants.{map-same}
use Rattle.upload_book.proofs.book.Book.accounts.Goals as goal

pub returns : goal.returns
returns c =
    let b = the_view c.self.inside in
    let told : List ℕ → Accounts = λ charge. record { charged = b.charged; released = b.released; charge = charge } in
    rw (← c.self.view_is) (ap told (c.charges.ensures
    ∙ map-same (λ t. charge_with b.store.pool.block_size (part_at b.store t)) (λ t. charge_in b.settings.numbers (tenant_book (plain_of b) t)) (range_with_len 0 16) (λ t there. charge-plain_book b t c.self.invariant)))
