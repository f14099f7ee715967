use Rattle.std.proofs.Common.{arith}
use Rattle.upload_book.proofs.Lawful.Visible.{visible-ended, visible-expired, IsVisibleAt-found}
use Rattle.upload_book.specs.inside.Kept.{stored_tenant_of}
use Rattle.upload_book.proofs.stored_tenant.StoredTenant.visible.Goals as goal

pub returns-in-Some-clause-place : goal.returns-in-Some-clause-place
returns-in-Some-clause-place c =
    IsVisibleAt-found (stored_tenant_of c.args.self.now) c.args.id c.args.now c.in-Some.place c.index.result.now (omega arith) (omega arith) (cc) c.index.ensures (cc)

pub returns-in_default-clause-refused : goal.returns-in_default-clause-refused
returns-in_default-clause-refused c =
    visible-expired (stored_tenant_of c.args.self.now) c.args.id c.args.now c.in-Some.place c.index.result.now (omega arith) (omega arith) (cc) c.index.ensures (cc)

pub returns-in_default-2-clause-refused : goal.returns-in_default-2-clause-refused
returns-in_default-2-clause-refused c =
    visible-ended (stored_tenant_of c.args.self.now) c.args.id c.args.now (omega arith) (omega arith) (cc)
