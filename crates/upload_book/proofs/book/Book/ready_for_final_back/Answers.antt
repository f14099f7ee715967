use Rattle.std.proofs.Common.{length, ap, arith}
use Rattle.upload_book.specs.Book.{StoredBook}
use Rattle.upload_book.specs.contracts.book.Book.{the_view}
use Rattle.upload_book.proofs.Steps.BookSteps.{stored_tenants-settings}
use Rattle.upload_book.proofs.book.Book.ready_for_final_back.Goals as goal

pub rooms_for-requires : goal.rooms_for-requires
rooms_for-requires c =
    let b = the_view c.self.inside in
    omega (arith, c.from-place.ensures, c.requires.tenant_there, stored_tenants-settings b c.self.invariant, ap (λ (b : StoredBook). length b.settings.tenants) c.self.view_is)
