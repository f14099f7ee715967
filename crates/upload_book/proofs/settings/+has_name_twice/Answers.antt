use Rattle.std.proofs.Common.{refl}
use Rattle.upload_book.proofs.Lawful.TenantLists.{has_name_twice-cons}
use Rattle.upload_book.proofs.settings.+has_name_twice.Goals as goal

pub returns-then-is_named_again : goal.returns-then-is_named_again
returns-then-is_named_again t c =
    rw (has_name_twice-cons c.args.tenants.now c.in-Some.later.now c.in-Some.first.now c.in-Some.ensures.cases.0)
    (rw (← c.is_named_again.ensures) (rw c.if-is_named_again.true refl))

pub returns-else-is_named_again : goal.returns-else-is_named_again
returns-else-is_named_again t c =
    rw (has_name_twice-cons c.args.tenants.now c.in-Some.later.now c.in-Some.first.now c.in-Some.ensures.cases.0)
    (rw (← c.is_named_again.ensures) (rw c.if-is_named_again.false c.has_name_twice.ensures))
