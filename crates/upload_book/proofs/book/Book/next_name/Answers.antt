use Rattle.std.proofs.Common.{◌<◌, ℕ, length, ap, sym, subst, ◌∙◌}
use Rattle.upload_book.specs.Book.{StoredBook}
use Rattle.upload_book.specs.contracts.book.Book.{the_view}
use Rattle.upload_book.specs.declared.head_row.Name.{Name}
use Rattle.upload_book.specs.BlockStore.{part_at}
use Rattle.upload_book.specs.TenantBook.{TenantBook}
use Rattle.upload_book.proofs.Steps.BookSteps.{part-plain}
use Rattle.upload_book.proofs.Heads.LineSteps.{stored_tenant-there}
use Rattle.upload_book.proofs.book.Book.next_name.Goals as goal

pub next-requires : goal.next-requires
next-requires c =
    rw c.from.ensures (stored_tenant-there (the_view c.self.inside) c.args.tenant c.self.invariant (subst (λ (b : StoredBook). c.args.tenant < length b.settings.tenants) (sym c.self.view_is) c.requires))

pub returns : goal.returns
returns c =
    let b = the_view c.self.inside in
    let named : ℕ → Name = λ id. record { tenant = c.args.tenant; id = id } in
    rw (← c.self.view_is) (ap named (c.next.ensures ∙ ap (λ t. (part_at b.store t).next) c.from.ensures ∙ ap (λ (part : TenantBook). part.next) (sym (part-plain b c.args.tenant))))
