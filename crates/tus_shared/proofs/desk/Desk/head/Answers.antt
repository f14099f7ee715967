use Rattle.std.proofs.Common.{inl, ◌∙◌}
use Rattle.tus_shared.proofs.TenantLemmas.{look-past}
use Rattle.tus_shared.proofs.desk.Desk.head.Goals as goal

pub returns-in-Some-Ok-clause-no_tenant : goal.returns-in-Some-Ok-clause-no_tenant
returns-in-Some-Ok-clause-no_tenant g c past = inl ((rw c.in-Some-Ok.field-0-is at c.in-Some-Ok.ensures.reads.tells) ∙ look-past g.C.Charges.settings c.read_board.new.self.seen c.args.name.now c.args.now past)

pub returns-in-Some-Err-clause-no_tenant : goal.returns-in-Some-Err-clause-no_tenant
returns-in-Some-Err-clause-no_tenant g c past = inl ((rw c.in-Some-Err.field-0-is at c.in-Some-Err.ensures.reads.tells) ∙ look-past g.C.Charges.settings c.read_board.new.self.seen c.args.name.now c.args.now past)
